-- `resend::fill_for` meets its contract: what each test counts. Assumes nothing.
use Rattle.trace.specs.Trace.{counted_at}
use Rattle.trace.specs.declared.Event.TheVariants.{Lost, Discarded, Either}
use Rattle.resend.proofs.fill_for.Given as goal

abbrev pub ghost-fill : goal.ghost-fill
ghost-fill a = counted_at Lost a.s.now

abbrev pub ghost-fill-2 : goal.ghost-fill-2
ghost-fill-2 a = counted_at Discarded a.s.now

abbrev pub ghost-fill-3 : goal.ghost-fill-3
ghost-fill-3 a = counted_at Either a.s.now
