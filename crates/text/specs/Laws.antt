-- What callers may lean on, as statements about the definitions that the calls promise. Proved in proofs/.
use Rattle.std.specs.Prelude.{ℕ, ◌≡◌, List, ◌++◌}
use Rattle.text.specs.declared.Page.{Page}
use Rattle.text.specs.Page.{end_at, put_at, put_in}

-- the page before and after a text was put at `at`, and where it ended
abbrev pub Put : List ℕ → ℕ → List ℕ → ℕ → List ℕ → Type 0
Put page at after end text = (end ≡ end_at page at text) × (after ≡ put_at page at text)

-- A text put, and another where it ended, is the joined text put, cut off or not.
abbrev pub Joined : Type 0
Joined = (page after last : List ℕ) (at end stop : ℕ) (a b : List ℕ) → Put page at after end a → Put after end last stop b → Put page at last stop (a ++ b)

-- The same of a page that goes on where a text ends.
abbrev pub JoinedInPage : Type 0
JoinedInPage = (page : Page) (first second : List ℕ) → put_in (put_in page first) second ≡ put_in page (first ++ second)
