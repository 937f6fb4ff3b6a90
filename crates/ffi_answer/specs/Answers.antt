-- What the boundary's structs hold for each answer of the library: the paper's number and place where the call
-- refused, 0 and 0 where it answered; and the values, 0 where it refused.
use Rattle.std.specs.Prelude.{ℕ, Ok, Err}
use Rattle.refusal.specs.declared.Refusal.{Refusal}
use Rattle.refusal.specs.Table.{refusal_number, refusal_place}
use Rattle.ffi_answer.specs.declared.RefusalFields.{RefusalFields}
use Rattle.ffi_answer.specs.declared.WrittenSize.{WrittenSize}
use Rattle.refusal.specs.Answer.{Written}

-- 0.7.0: major × 10,000 + minor × 100 + patch
abbrev pub version : ℕ
version = 700

abbrev pub none : RefusalFields
none = record { number = 0; place = 0 }

abbrev pub refusal_out : Refusal → RefusalFields
refusal_out r = record { number = refusal_number r; place = refusal_place r }

abbrev pub written_out : Written → WrittenSize
written_out (Ok n) = record { refusal = none; size = n }
written_out (Err r) = record { refusal = refusal_out r; size = 0 }
