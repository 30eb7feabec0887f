-- What a string is read from: itself, its zero, and whatever follows to the end of the last word.
use Prim.Native.Nat.{ℕ, suc, ◌+◌, ◌*◌, ◌-◌, ◌%◌, ◌≤◌}
use mathlib.Core.Path.{◌≡◌, refl, ap, sym, ◌∙◌}
use mathlib.Core.Bool.{Bool, true, false, not}
use mathlib.Core.List.{List, [], ◌∷◌, ◌++◌, append_assoc}
use Rattle.std.specs.Prelude.{Option, None, Some}
use native.Mathlib.Omega.{arith}
use borrow.Author.Tests.{le-ltb, ltb-false, eqb-true, not-true}
use lib.Dec.{eqb, ltb}
use lib.ListN.{length, take, drop, replicate, length-append, length-replicate, take-append-drop}
use lib.Seq.{take-append-add, take-take, drop_at, length-take-le}
use Rattle.spec.specs.Base.{every}
use Rattle.spec.specs.Text.{cons_in, until_zero, text_words, padded, is_utf8}
use Rattle.spec.specs.Reader.{Reader, reader, got, refuse, past_text, text_found, read_text}
use Rattle.demands.proofs.Choice.{IfSome, left, right, both, either}
use Rattle.demands.proofs.Reading.{Again, Comes, Reads}

-- THE ZERO

-- no byte is zero
abbrev pub no_zeros : List ℕ → Bool
no_zeros s = every (λ b. not (eqb b 0)) s

-- a string and its zero stand first in some bytes
pub record EndsIn (l s : List ℕ) : Type 0 where
  pub free : no_zeros s ≡ true
  pub more : List ℕ
  pub is : l ≡ s ++ (0 ∷ more)

-- a byte that is not zero before the others
ends_cons : (b : ℕ) (bs : List ℕ) → eqb b 0 ≡ false → (o : Option (List ℕ)) → IfSome (EndsIn bs) o
    → IfSome (EndsIn (b ∷ bs)) (cons_in b o)
ends_cons b bs e None p = tt
ends_cons b bs e (Some s) p =
    record { free = both (ap not e) p.free; more = p.more; is = ap (λ (w : List ℕ). b ∷ w) p.is }

-- what is found ends at the first zero
ends_in : (l : List ℕ) → IfSome (EndsIn l) (until_zero l)
unfolding until_zero
ends_in [] = tt
ends_in (b ∷ bs) =
    either (IfSome (EndsIn (b ∷ bs))) (eqb b 0) (Some []) (cons_in b (until_zero bs))
    (λ e. record { free = refl; more = bs; is = ap (λ (k : ℕ). k ∷ bs) (eqb-true b 0 e) })
    (λ e. ends_cons b bs e (until_zero bs) (ends_in bs))

-- a string and its zero are found
zero_found : (s t : List ℕ) → no_zeros s ≡ true → until_zero (s ++ (0 ∷ t)) ≡ Some s
unfolding until_zero
zero_found [] t p = refl
zero_found (b ∷ s) t p =
    rw (not-true (eqb b 0) (left (not (eqb b 0)) (no_zeros s) p), zero_found s t (right (not (eqb b 0)) (no_zeros s) p))

-- READING

-- a string in the bytes of its words
pub record TextIn (s x : List ℕ) : Type 0 where
  pub ends : EndsIn x s
  pub utf8 : is_utf8 s ≡ true
  pub long : length x ≡ 4 * text_words (length s)

-- a string, the bytes of the words that it was read from, and the bytes written for it
abbrev pub Text : List ℕ → List ℕ → List ℕ → Type 0
Text s x y = TextIn s x × (y ≡ padded s)

-- a string is read from any such bytes
text_again : (s x : List ℕ) → TextIn s x → (n n' : ℕ) → 4 * n ≡ length x + 4 * n' → Again read_text n n' x s
unfolding read_text
text_again s x p n n' e at t h =
    let size = p.long in
    let all : length (x ++ t) ≡ length x + length t = length-append x t in
    let first : x ++ t ≡ s ++ (0 ∷ (p.ends.more ++ t)) =
    ap (λ (l : List ℕ). l ++ t) p.ends.is ∙ append_assoc s (0 ∷ p.ends.more) t in
    let searched : 4 * n ≡ length s + suc (4 * n - length s - 1) = omega arith in
    let found : until_zero (take (4 * n) (x ++ t)) ≡ Some s =
    ap (λ (l : List ℕ). until_zero (take (4 * n) l)) first
    ∙ ap (λ (m : ℕ). until_zero (take m (s ++ (0 ∷ (p.ends.more ++ t))))) searched
    ∙ ap until_zero (take-append-add s (0 ∷ (p.ends.more ++ t)) (suc (4 * n - length s - 1)))
    ∙ zero_found s (take (4 * n - length s - 1) (p.ends.more ++ t)) p.ends.free in
    let left : n - text_words (length s) ≡ n' = omega arith in
    rw (le-ltb (length (x ++ t)) (4 * n) (omega arith), found, p.utf8, drop_at x t (4 * text_words (length s)) size, left, size)

-- a string padded is as long as its words
pub padded_length : (s : List ℕ) → length (padded s) ≡ 4 * text_words (length s)
unfolding padded
padded_length s = simp (length-append, length-replicate) (omega arith)

-- a string padded is such bytes
padded_in : (s : List ℕ) → no_zeros s ≡ true → is_utf8 s ≡ true → TextIn s (padded s)
unfolding padded
padded_in s z u =
    let e : 4 - length s % 4 ≡ suc (3 - length s % 4) = omega arith in
    record {
      ends = record { free = z; more = replicate (3 - length s % 4) 0; is = ap (λ (n : ℕ). s ++ replicate n 0) e };
      utf8 = u;
      long = padded_length s;
    }

module _ (at n : ℕ) (rest : List ℕ) (fits : 4 * n ≤ length rest) where
  -- where a string is read
  abbrev start : Reader
  start = reader at (Some n) rest

  -- the bytes of its words
  abbrev taken : List ℕ → List ℕ
  taken s = take (4 * text_words (length s)) rest

  -- a string that ends within the limit stands in them
  text_in : (s : List ℕ) → EndsIn (take (4 * n) rest) s → is_utf8 s ≡ true → (text_words (length s) ≤ n) × TextIn s (taken s)
  text_in s p u =
      let k : ℕ = 4 * text_words (length s) in
      let all : length (take (4 * n) rest) ≡ length s + suc (length p.more) =
      ap length p.is ∙ length-append s (0 ∷ p.more) in
      let most : length (take (4 * n) rest) ≡ 4 * n = length-take-le (4 * n) rest fits in
      let cut : k ≡ length s + suc (k - length s - 1) = omega arith in (
        omega arith,
        record {
          ends =
              record {
                free = p.free;
                more = take (k - length s - 1) p.more;
                is = sym (take-take k (4 * n) rest (omega arith)) ∙ ap (take k) p.is
                    ∙ ap (λ (m : ℕ). take m (s ++ (0 ∷ p.more))) cut ∙ take-append-add s (0 ∷ p.more) (suc (k - length s - 1));
              };
          utf8 = u;
          long = length-take-le k rest (omega arith);
        },
      )

  -- by what was found
  found_comes : (o : Option (List ℕ)) → IfSome (EndsIn (take (4 * n) rest)) o → Comes Text read_text at n rest (text_found o start)
  found_comes None p = omega arith
  found_comes (Some s) p =
      either (Comes Text read_text at n rest) (is_utf8 s) (got s (past_text (length s) start)) (refuse 11 at start)
      (λ u. let few = (text_in s p u).0 in
      let x : TextIn s (taken s) = (text_in s p u).1 in
      let size = x.long in
      let spends : 4 * n ≡ length (taken s) + 4 * (n - text_words (length s)) = omega arith in
      record {
        from = taken s;
        left = n - text_words (length s);
        behind = drop (4 * text_words (length s)) rest;
        takes = sym (take-append-drop (4 * text_words (length s)) rest);
        to = rw size;
        spends = spends;
        again = text_again s (taken s) x n (n - text_words (length s)) spends;
        bytes = padded s;
        long = padded_length s ∙ sym size;
        back = λ by. text_again s (padded s) (padded_in s p.free u) n (n - text_words (length s))
            (omega (arith, padded_length s));
        fact = (x, refl);
      })
      (λ u. omega arith)

-- a string
pub text_reads : Reads Text read_text
unfolding read_text
text_reads =
    record {
      comes = λ at n rest.
          either (Comes Text read_text at n rest) (ltb (length rest) (4 * n)) (refuse 9 at (reader at (Some n) rest))
          (text_found (until_zero (take (4 * n) rest)) (reader at (Some n) rest)) (λ e. omega arith)
          (λ e. found_comes at n rest (ltb-false (length rest) (4 * n) e) (until_zero (take (4 * n) rest))
          (ends_in (take (4 * n) rest)));
    }
