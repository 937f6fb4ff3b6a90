-- How an answer and a lent buffer follow from the refusals: an order line of document 01 is a chain of
-- `unless`, and "all lent bytes keep what they held" is `after`.
use Rattle.std.specs.Prelude.{ℕ, Bool, true, false, List, ◌++◌, drop, Result, Ok, Err}
use Rattle.refusal.specs.declared.Refusal.{Refusal}

-- what judging an input comes to: it is accepted, or why not
abbrev pub Judged : Type 0
Judged = Result Unit Refusal

abbrev pub accepted : Judged
accepted = Ok tt

-- what a call that fills a lent buffer from its front answers: how many bytes, or entries, are the result, or why not
abbrev pub Written : Type 0
Written = Result ℕ Refusal

-- `unless good no rest`: the refusal `no` where the test fails, and otherwise what follows. A chain of
-- these gives the first refusal that applies, in the order in which they are written.
abbrev pub unless : {A : Type 0} → Bool → A → A → A
unless true no_answer rest = rest
unless false no_answer rest = no_answer

-- An answer over an input that was judged: its refusal, and otherwise what follows.
abbrev pub if_accepted : {A : Type 0} → Judged → (Refusal → A) → A → A
if_accepted (Ok _) refused rest = rest
if_accepted (Err r) refused rest = refused r

-- The buffer after a call that fills it from its front: the result, then the bytes past it as they
-- were; as it was, where the call refused.
abbrev pub after : Written → List ℕ → List ℕ → List ℕ
after (Ok n) result buffer = result ++ drop n buffer
after (Err r) result buffer = buffer
