-- Packets that differ in reserved bits alone have the same list: `ReservedListed` of specs/Laws.antt. Assumes
-- nothing.
use Prim.Native.Nat.{ℕ}
use mathlib.Core.Path.{◌≡◌, refl, sym, ap, ◌∙◌}
use mathlib.Core.List.{List, [], ◌∷◌}
use Rattle.frame.specs.Frames.{Entry}
use Rattle.frame.specs.Packet.{Packet, good, bad}
use Rattle.packet.specs.Reserved.{cleared_all, cleared_packet}
use Rattle.packet.proofs.Reserved.{clear_read, clear_length}
use Rattle.survey.specs.Survey.{listing, list_of, list_answer}
use Rattle.survey.specs.Laws.{ReservedListed}

-- clearing changes no list
clear_listing : (es left : List Entry) → listing (cleared_all es) (cleared_all left) ≡ listing es left
unfolding listing cleared_all
clear_listing es [] = refl
clear_listing es (e ∷ left) = rw (clear_read es e, clear_listing es left)

clear_list : (p : Packet) → list_of (cleared_packet p) ≡ list_of p
clear_list (good sender es) = clear_listing es es
clear_list (bad r) = refl

clear_answer : (p : Packet) (out : List ℕ) → list_answer (cleared_packet p) out ≡ list_answer p out
clear_answer (good sender es) out = rw (clear_length es)
clear_answer (bad r) out = refl

pub reserved_listed : ReservedListed
reserved_listed p p' e =
    (sym (clear_list p) ∙ ap list_of e ∙ clear_list p', λ out. sym (clear_answer p out) ∙ ap (λ (x : Packet). list_answer x out) e ∙ clear_answer p' out)
