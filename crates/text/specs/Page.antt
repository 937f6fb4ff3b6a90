-- A page with text put into it where it goes on, cut off at the page's end.
use Rattle.std.specs.Prelude.{ℕ, ◌+◌, ◌-◌, min, List, ◌++◌, length, take, drop}
use Rattle.text.specs.declared.Page.{Page}

-- how many bytes of the text fit
abbrev pub fitting : List ℕ → ℕ → List ℕ → ℕ
fitting page at text = min (length text) (length page - at)

-- where the text ends, and the page with it
unfoldable pub end_at : List ℕ → ℕ → List ℕ → ℕ
end_at page at text = at + fitting page at text

unfoldable pub put_at : List ℕ → ℕ → List ℕ → List ℕ
put_at page at text = take at page ++ take (fitting page at text) text ++ drop (end_at page at text) page

-- both of a page: its bytes stay those that were lent
unfoldable pub put_in : Page → List ℕ → Page
put_in page text =
    record {
      bytes = record page.bytes { now = put_at page.bytes.now page.at text };
      at = end_at page.bytes.now page.at text;
    }
