-- Reading within a limit. Whatever is read stands in the bytes in front, by which the position moves and which the limit loses; it
-- is read again wherever these bytes stand, and from the bytes written for it; a refusal has a number from 4 to 14 and a place not
-- past the bytes. One property, `Reads`, goes by the parts of parses, so that each reader is a line or two.
use Prim.Native.Nat.{ℕ, zero, suc, ◌+◌, ◌*◌, ◌≤◌}
use mathlib.Core.Path.{◌≡◌, refl, ap, sym, ◌∙◌, subst}
use mathlib.Core.Bool.{Bool, true, false}
use mathlib.Core.List.{List, [], ◌++◌, append_assoc, append-nil}
use native.Mathlib.Omega.{arith}
use native.Mathlib.Nat.{add-zero}
use lib.Dec.{eqb-suc-zero}
use lib.ListN.{length, length-append}
use Rattle.spec.specs.declared.Refusal.{Refusal}
use Rattle.std.specs.Prelude.{if◌then◌else◌}
use Rattle.spec.specs.Reader.{Reader, reader, Read, got, refused, Parse, after, ◌>>=◌, ◌into◌, give, refuse, here, spent}
use Rattle.spec.specs.Words.{AllBytes}
use Rattle.demands.proofs.Choice.{either}
use Rattle.demands.proofs.Bytes.{all_left, all_right}
use Rattle.std.specs.Prelude.{Some}

-- THE PROPERTY

-- a relation between what is read, the bytes that it is read from, and the bytes written for it
abbrev pub Relation : Type 0 → Type 1
Relation A = A → List ℕ → List ℕ → Type 0

-- the numbers that reading refuses with
abbrev pub OfReading : ℕ → Type 0
OfReading n = (4 ≤ n) × (n ≤ 14)

-- a refusal of reading, with a place that is not past an end
abbrev pub RefusedBy : ℕ → Refusal → Type 0
RefusedBy end x = OfReading x.number × (x.place ≤ end)

-- from anywhere, with n words left, m reads a from the bytes w, where the bytes of the n' words left then are there
abbrev pub Again : {A : Type 0} → Parse A → ℕ → ℕ → List ℕ → A → Type 0
Again m n n' w a =
    (at : ℕ) (t : List ℕ) → 4 * n' ≤ length t → m (reader at (Some n) (w ++ t)) ≡ got a (reader (at + length w) (Some n') t)

-- a was read from the bytes in front, and the reader t is left, with words and bytes; it is read from those bytes again, and from
-- the bytes written for it, as many, where they are bytes
pub record Taken {A : Type 0} (R : Relation A) (m : Parse A) (at n : ℕ) (rest : List ℕ) (a : A) (t : Reader) : Type 0 where
  pub from : List ℕ
  pub left : ℕ
  pub behind : List ℕ
  pub takes : rest ≡ from ++ behind
  pub to : t ≡ reader (at + length from) (Some left) behind
  pub spends : 4 * n ≡ length from + 4 * left
  pub again : Again m n left from a
  pub bytes : List ℕ
  pub long : length bytes ≡ length from
  pub back : AllBytes from → Again m n left bytes a
  pub fact : R a from bytes

-- what reading came to
abbrev pub Comes : {A : Type 0} → Relation A → Parse A → ℕ → ℕ → List ℕ → Read A → Type 0
Comes R m at n rest (got a t) = Taken R m at n rest a t
Comes R m at n rest (refused x t) = RefusedBy (at + length rest) x

-- whatever the parse reads, from any position, with any number of words left, and from any bytes, is so
pub record Reads {A : Type 0} (R : Relation A) (m : Parse A) : Type 0 where
  pub comes : (at n : ℕ) (rest : List ℕ) → Comes R m at n rest (m (reader at (Some n) rest))

-- THE RULES

-- nothing read
pub give_reads : {A : Type 0} {R : Relation A} {a : A} → R a [] [] → Reads R (give a)
give_reads p =
    record {
      comes = λ at n rest.
          record {
            from = [];
            left = n;
            behind = rest;
            takes = refl;
            to = rw add-zero;
            spends = omega arith;
            again = λ at' t h. rw add-zero;
            bytes = [];
            long = refl;
            back = λ by at' t h. rw add-zero;
            fact = p;
          };
    }

-- a refusal at the position
pub stop_reads : {A : Type 0} {R : Relation A} {n : ℕ} → OfReading n → Reads R (here >>= (λ at. refuse n at))
stop_reads p = record { comes = λ at m rest. (p, omega arith) }

-- a parse that does, with so many words left, as another, of which more is said
as_comes : {A : Type 0} {Q R : Relation A} (m p : Parse A) (n : ℕ)
    → ((at : ℕ) (rest : List ℕ) → p (reader at (Some n) rest) ≡ m (reader at (Some n) rest))
    → ((a : A) (x w : List ℕ) → Q a x w → R a x w) → (at : ℕ) (rest : List ℕ) (y : Read A) → Comes Q m at n rest y
    → Comes R p at n rest y
as_comes m p n e f at rest (got a t) z =
    record {
      from = z.from;
      left = z.left;
      behind = z.behind;
      takes = z.takes;
      to = z.to;
      spends = z.spends;
      again = λ at' u h. e at' (z.from ++ u) ∙ z.again at' u h;
      bytes = z.bytes;
      long = z.long;
      back = λ by at' u h. e at' (z.bytes ++ u) ∙ z.back by at' u h;
      fact = f a z.from z.bytes z.fact;
    }
as_comes m p n e f at rest (refused x t) z = z

-- the same parse, of which less is said
pub less_reads : {A : Type 0} {Q R : Relation A} {m : Parse A} → Reads Q m → ((a : A) (x w : List ℕ) → Q a x w → R a x w)
    → Reads R m
less_reads {Q = Q} {R = R} {m = m} z f =
    record {
      comes = λ at n rest. as_comes {Q = Q} {R = R} m m n (λ at rest. refl) f at rest (m (reader at (Some n) rest))
          (z.comes at n rest);
    }

-- by whether the limit is spent, which is asked again
pub spent_reads : {A : Type 0} {R : Relation A} {m k : Parse A} → Reads R m → Reads R k
    → Reads R (spent >>= (λ end. if end then m else k))
spent_reads {R = R} {m = m} {k = k} y z = record { comes = by }
  where
    by : (at n : ℕ) (rest : List ℕ)
        → Comes R (spent >>= (λ end. if end then m else k)) at n rest
        ((spent >>= (λ end. if end then m else k)) (reader at (Some n) rest))
    by at zero rest =
        as_comes {Q = R} {R = R} m (spent >>= (λ end. if end then m else k)) zero (λ at rest. refl) (λ a x w r. r) at rest
        (m (reader at (Some zero) rest)) (y.comes at zero rest)
    by at (suc n) rest =
        rw eqb-suc-zero
        (as_comes {Q = R} {R = R} k (spent >>= (λ end. if end then m else k)) (suc n) (λ at rest. rw (eqb-suc-zero n))
        (λ a x w r. r) at rest
        (k (reader at (Some (suc n)) rest)) (z.comes at (suc n) rest))

module _ {A B : Type 0} (Q : Relation A) (R : Relation B) (m : Parse A) (k : A → Parse B) where
  -- the bytes of the first, then those of the second, are read
  again_then : (n n' n'' : ℕ) (a : A) (b : B) (x y : List ℕ) → 4 * n' ≡ length y + 4 * n'' → Again m n n' x a → Again (k a) n' n'' y b
      → Again (m >>= k) n n'' (x ++ y) b
  again_then n n' n'' a b x y e p q at t h =
      let fit : 4 * n' ≤ length (y ++ t) = simp length-append (omega arith) in
      let long : at + length x + length y ≡ at + length (x ++ y) = omega (arith, length-append x y) in
      rw (append_assoc x y t, p at (y ++ t) fit, q (at + length x) t h, long)

  -- what the second came to, from before the first
  second_comes : (at n : ℕ) (rest : List ℕ) (a : A) (t : Reader) (z : Taken Q m at n rest a t) (y : Read B)
      → Comes (λ b u v. R b (z.from ++ u) (z.bytes ++ v)) (k a) (at + length z.from) z.left z.behind y
      → Comes R (m >>= k) at n rest y
  second_comes at n rest a s z (got b t) u =
      let all = length-append z.from u.from in
      let written = length-append z.bytes u.bytes in
      let second = u.spends in
      let e : at + length z.from + length u.from ≡ at + length (z.from ++ u.from) = omega arith in
      record {
        from = z.from ++ u.from;
        left = u.left;
        behind = u.behind;
        takes = z.takes ∙ ap (λ (w : List ℕ). z.from ++ w) u.takes ∙ sym (append_assoc z.from u.from u.behind);
        to = u.to ∙ ap (λ (p : ℕ). reader p (Some u.left) u.behind) e;
        spends = omega arith;
        again = again_then n z.left u.left a b z.from u.from second z.again u.again;
        bytes = z.bytes ++ u.bytes;
        long = omega arith;
        back = λ by.
            again_then n z.left u.left a b z.bytes u.bytes (omega arith) (z.back (all_left z.from u.from by))
            (u.back (all_right z.from u.from by));
        fact = u.fact;
      }
  second_comes at n rest a s z (refused x t) u =
      let all = ap length z.takes ∙ length-append z.from z.behind in
      (u.0, omega arith)

  -- what both came to
  first_comes : ((a : A) (x w : List ℕ) → Q a x w → Reads (λ b u v. R b (x ++ u) (w ++ v)) (k a)) → (at n : ℕ) (rest : List ℕ)
      → (y : Read A) → Comes Q m at n rest y → Comes R (m >>= k) at n rest (after y k)
  first_comes on at n rest (got a t) z =
      subst (λ (u : Reader). Comes R (m >>= k) at n rest (k a u)) (sym z.to)
      (second_comes at n rest a t z (k a (reader (at + length z.from) (Some z.left) z.behind))
      ((on a z.from z.bytes z.fact).comes (at + length z.from) z.left z.behind))
  first_comes on at n rest (refused x t) z = z

-- one parse after the other: the bytes of the second follow those of the first
pub then_reads : {A B : Type 0} {Q : Relation A} {R : Relation B} {m : Parse A} {k : A → Parse B} → Reads Q m
    → ((a : A) (x w : List ℕ) → Q a x w → Reads (λ b u v. R b (x ++ u) (w ++ v)) (k a)) → Reads R (m >>= k)
then_reads {Q = Q} {R = R} {m = m} {k = k} z on =
    record { comes = λ at n rest. first_comes Q R m k on at n rest (m (reader at (Some n) rest)) (z.comes at n rest) }

-- what was read, made into something else
pub into_reads : {A B : Type 0} {Q : Relation A} {R : Relation B} {m : Parse A} (f : A → B) → Reads Q m
    → ((a : A) (x w : List ℕ) → Q a x w → R (f a) x w) → Reads R (m into f)
into_reads {R = R} f z h = then_reads z (λ a x w q. give_reads (rw (append-nil x, append-nil w) (h a x w q)))

-- one of two, by a test
pub if_reads : {A : Type 0} {R : Relation A} {m k : Parse A} (c : Bool) → (c ≡ true → Reads R m) → (c ≡ false → Reads R k)
    → Reads R (if c then m else k)
if_reads {R = R} {m = m} {k = k} c y z = either (Reads R) c m k y z
