-- The words of packets: how many, one more behind, packets put into a word behind others; packets as bytes behind others. Assumes
-- nothing.
use Prim.Native.Nat.{ℕ, zero, suc, ◌+◌, ◌-◌, ◌*◌, ◌/◌, ◌%◌, ◌^◌, ◌<◌, ◌≤◌}
use mathlib.Core.Path.{◌≡◌, refl, sym, ap, ◌∙◌}
use mathlib.Core.Bool.{Bool, false}
use mathlib.Core.List.{List, [], ◌∷◌, ◌++◌}
use native.Mathlib.Omega.{arith}
use native.Mathlib.Nat.{zero-mul, zero-add}
use native.Mathlib.Numerals.{add-one}
use lib.Dec.{eqb}
use lib.ListN.{length, get_or, length-append}
use lib.Pow.{pow_mono, shl_exact, shr-shr, field, mod-mod-pow}
use Rattle.packed.specs.Words.{word_bits, one_at, one_in, number_of, bytes_of}
use Rattle.packed.proofs.Numbers.{number_cut, number_lt, number_zero, bit_of}
use Rattle.packed.proofs.Windows.{one_word}
use Rattle.packed.proofs.Bytes.{length_bytes, bytes_cut, bytes_same}
use Rattle.packing.specs.Packing.{words_up_to}
use Rattle.packing.proofs.Placing.{Fronts}

module _ (lost : ℕ → Bool) where
  pub length_words : (n : ℕ) → length (words_up_to lost n) ≡ n
  unfolding words_up_to
  length_words zero = refl
  length_words (suc n) = length-append (words_up_to lost n) (number_of lost (word_bits * n) word_bits ∷ []) ∙ omega (arith, length_words n)

  pub words_next : (n word : ℕ) → word ≡ number_of lost (word_bits * n) word_bits → words_up_to lost (n + 1) ≡ words_up_to lost n ++ (word ∷ [])
  unfolding words_up_to
  words_next n word is = rw (add-one, is)

  pub words_fronts : Fronts (words_up_to lost)
  unfolding words_up_to
  words_fronts = record { none = refl; long = length_words }

  pub bytes_fronts : Fronts (bytes_of lost 0)
  unfolding bytes_of
  bytes_fronts = record { none = refl; long = length_bytes lost 0 }

  -- packets of which only the first m may be lost
  pub number_front : (i m n : ℕ) → m ≤ n → ((j : ℕ) → i + m ≤ j → lost j ≡ false) → number_of lost i n ≡ number_of lost i m
  number_front i m n h none =
      let size : n ≡ m + (n - m) = omega arith in
      let zero = number_zero lost (i + m) (n - m) (λ j l. none (i + m + j) (omega arith)) in
      ap (number_of lost i) size ∙ number_cut lost i m (n - m) ∙ ap (λ (k : ℕ). k * 2 ^ m + number_of lost i m) zero
      ∙ rw (zero-mul (2 ^ m), zero-add (number_of lost i m))

  -- packets put into a word behind others
  pub number_fits : (i n : ℕ) → n ≤ word_bits → number_of lost i n < 2 ^ 64
  number_fits i n h = let most = pow_mono {i = n} {j = 64} h in let few = number_lt lost i n in omega arith

  pub number_more : (i j m x : ℕ) → j + m ≤ word_bits → x ≡ number_of lost (i + j) m → number_of lost i j + x * 2 ^ j % 2 ^ 64 ≡ number_of lost i (j + m)
  number_more i j m x h is =
      let fits : x < 2 ^ m = rw is (number_lt lost (i + j) m) in
      let whole : x * 2 ^ j % 2 ^ 64 ≡ x * 2 ^ j = shl_exact {a = x} m j 64 fits (omega arith) in
      let same : x * 2 ^ j ≡ number_of lost (i + j) m * 2 ^ j = ap (λ (k : ℕ). k * 2 ^ j) is in
      let cut = number_cut lost i j m in
      omega arith

-- packets as bytes behind others: by their own numbering, of a word behind whole words, of eight bits of a word, of one bit
bytes_more : (lost lost' : ℕ → Bool) (m n : ℕ) → ((j : ℕ) → j < n → lost (m + j) ≡ lost' j) → bytes_of lost 0 (m + n) ≡ bytes_of lost 0 m ++ bytes_of lost' 0 n
bytes_more lost lost' m n same =
    bytes_cut lost 0 m n
    ∙ ap (λ (l : List ℕ). bytes_of lost 0 m ++ l) (bytes_same lost lost' (0 + m) 0 n (λ j h. rw (zero-add m, zero-add j) (same j h)))

pub word_more : (words : List ℕ) (k n : ℕ) → n ≤ word_bits → bytes_of (one_in words) 0 (word_bits * k + n) ≡ bytes_of (one_in words) 0 (word_bits * k) ++ bytes_of (one_at (get_or words k 0)) 0 n
word_more words k n h = bytes_more (one_in words) (one_at (get_or words k 0)) (word_bits * k) n (λ j l. one_word words k j (omega arith))

pub octet_more : (word m : ℕ) → bytes_of (one_at word) 0 (m + 8) ≡ bytes_of (one_at word) 0 m ++ bytes_of (one_at (word / 2 ^ m % 256)) 0 8
unfolding one_at
octet_more word m = bytes_more (one_at word) (one_at (word / 2 ^ m % 256)) m 8 (λ j h. ap (λ (d : ℕ). eqb d 1) (sym (digit j h)))
  where
    digit : (j : ℕ) → j < 8 → word / 2 ^ m % 256 / 2 ^ j % 2 ≡ word / 2 ^ (m + j) % 2
    digit j h =
        let size : 8 ≡ 7 - j + 1 + j = omega arith in
        ap (λ (k : ℕ). word / 2 ^ m % 2 ^ k / 2 ^ j % 2) size ∙ ap (λ (d : ℕ). d % 2) (field (word / 2 ^ m) (7 - j + 1) j)
        ∙ mod-mod-pow (word / 2 ^ m / 2 ^ j) (7 - j) 1 ∙ ap (λ (d : ℕ). d % 2) (shr-shr word m j)

pub bit_more : (word j : ℕ) → bytes_of (one_at word) 0 (j + 1) ≡ bytes_of (one_at word) 0 j ++ (word / 2 ^ j % 2 ∷ [])
unfolding bytes_of
bit_more word j = bytes_cut (one_at word) 0 j 1 ∙ ap (λ (x : ℕ). bytes_of (one_at word) 0 j ++ (x ∷ [])) (rw (zero-add j) (bit_of word j))
