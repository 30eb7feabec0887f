-- The law of ASCII text: it, and each part of it, may be a string.
use Prim.Native.Nat.{ℕ}
use mathlib.Core.Path.{◌≡◌, refl, ap, sym, ◌∙◌}
use mathlib.Core.Bool.{Bool, true, ◌&&◌}
use mathlib.Core.List.{List}
use lib.Dec.{T}
use lib.ListN.{take, drop}
use Rattle.spec.specs.Text.{is_utf8}
use Rattle.text.specs.AsciiText.{is_ascii_text}
use Rattle.text.proofs.AsciiText.{no_zero_lem, well_formed_lem, ascii_part, told_ascii}
use Rattle.records.specs.Steps.{is_string}

-- ASCII text may be a string
are_string : (s : List ℕ) → T (is_ascii_text s) → is_string s ≡ true
unfolding is_string
are_string s h = ap (λ (x : Bool). x && is_utf8 s) (no_zero_lem s h) ∙ well_formed_lem s h

-- so may bytes that are told to be ASCII text
pub ascii_string : (s : List ℕ) (t : Bool) → t ≡ is_ascii_text s → t ≡ true → true ≡ is_string s
ascii_string s t e q = sym (are_string s (told_ascii s t e q))

-- and a part of ASCII text
pub part_string : (s : List ℕ) (n k : ℕ) → is_ascii_text s ≡ true → is_string (take n (drop k s)) ≡ true
part_string s n k e = are_string (take n (drop k s)) (ascii_part n k s (told_ascii s true (sym e) refl))
