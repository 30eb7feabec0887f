-- Kinds that are noted, of enumerants that have parameters and of parameters: where none is both, no parameter's kind has parameters.
use mathlib.Core.Path.{◌≡◌, refl, sym, ap, ◌∙◌}
use mathlib.Core.Bool.{Bool, true, false, not, ◌&&◌, ◌||◌, and-true, and_assoc, or_assoc, or-false, false≢true, true≢false}
use mathlib.Core.List.{List, [], ◌∷◌, ◌++◌, append_assoc, append-nil}
use Prim.Native.Nat.{ℕ, zero, suc, ◌≤◌, ◌<◌}
use borrow.Author.Tests.{eqb-true, eqb-false, eq-eqb, ne_eqb, not-true}
use lib.Dec.{eqb}
use lib.ListN.{length, get_or, set, drop, replicate, length-set}
use lib.Seq.{get_or-set_same, get_or-set_other}
use Rattle.spec.specs.Base.{has, every, implies, is_in, joined}
use Rattle.spec.specs.Grammar.{items, Enumerant, enumerants_of, parameterless, all_flat}
use Rattle.spec.proofs.Choice.{left, right, both, cases}
use Rattle.formed.specs.Check.{NotedBy, is_owner, parameters_in, Noting, Noted, flat_over}
use Rattle.rules.specs.Rules.{is_apart}
use Rattle.grammar.proofs.ItemLaws.{items_end}

-- LISTS

-- each of some and one more passes
every_more : {A : Type 0} (f : A → Bool) (l : List A) (x : A) → every f (l ++ (x ∷ [])) ≡ every f l && f x
every_more f [] x = and-true (f x)
every_more f (y ∷ l) x = ap (λ (t : Bool). f y && t) (every_more f l x) ∙ sym (and_assoc (f y) (every f l) (f x))

-- each of two lists passes
every_both : {A : Type 0} (f : A → Bool) (l m : List A) → every f (l ++ m) ≡ every f l && every f m
every_both f [] m = refl
every_both f (x ∷ l) m = ap (λ (t : Bool). f x && t) (every_both f l m) ∙ sym (and_assoc (f x) (every f l) (every f m))

-- each of the joined lists passes
every_joined : {A B : Type 0} (f : B → Bool) (h : A → List B) (l : List A) → every f (joined h l) ≡ every (λ x. every f (h x)) l
every_joined f h [] = refl
every_joined f h (x ∷ l) = every_both f (h x) (joined h l) ∙ ap (λ (t : Bool). every f (h x) && t) (every_joined f h l)

-- one list more is joined
joined_more : {A B : Type 0} (h : A → List B) (l : List A) (x : A) → joined h (l ++ (x ∷ [])) ≡ joined h l ++ h x
joined_more h [] x = append-nil (h x)
joined_more h (y ∷ l) x = ap (λ (m : List _). h y ++ m) (joined_more h l x) ∙ sym (append_assoc (h y) (joined h l) (h x))

-- a number that is in one of two lists
pub in_both : (k : ℕ) (l m : List ℕ) → is_in k (l ++ m) ≡ is_in k l || is_in k m
in_both k [] m = refl
in_both k (x ∷ l) m = ap (λ (t : Bool). eqb k x || t) (in_both k l m) ∙ sym (or_assoc (eqb k x) (is_in k l) (is_in k m))

-- two tests, the other way round
pub or_swap : (a b : Bool) → a || b ≡ b || a
or_swap true true = refl
or_swap true false = refl
or_swap false b = sym (or-false b)

-- two numbers are the same either way round
eqb_swap : (i j : ℕ) → eqb i j ≡ eqb j i
eqb_swap i j = by (eqb i j) refl
  where
    by : (t : Bool) → eqb i j ≡ t → t ≡ eqb j i
    by true e = sym (eq-eqb j i (sym (eqb-true i j e)))
    by false e = sym (ne_eqb j i (λ (q : j ≡ i). eqb-false i j e (sym q)))

-- NOTING KINDS

-- a kind is noted
pub note : (ms : List Bool) (j : ℕ) → j < length ms → NotedBy (λ k. eqb k j) ms (set ms j true)
note ms j h = record { size = length-set ms j true; noted = λ k. by k (eqb k j) refl }
  where
    by : (k : ℕ) (t : Bool) → eqb k j ≡ t → get_or (set ms j true) k false ≡ t || get_or ms k false
    by k true e = rw (eqb-true k j e) (get_or-set_same ms j true false h)
    by k false e = get_or-set_other ms j k true false (eqb-false k j e)

-- where nothing is noted
none_noted : (n k : ℕ) → get_or (replicate n false) k false ≡ false
none_noted zero k = refl
none_noted (suc n) zero = refl
none_noted (suc n) (suc k) = none_noted n k

-- before the first enumerant
pub noting_start : (g : List ℕ) → Noting g (replicate 256 false) (replicate 256 false) 0
unfolding parameterless parameters_in
noting_start g = record { seen = []; all = refl; sizes = (refl, refl); owned = λ k. none_noted 256 k; taken = λ k. none_noted 256 k }

-- one enumerant more: whether one of the kind has parameters
one_owner : (p a h : Bool) → not (p && (not a || not h)) ≡ (a && h) || not p
one_owner true true true = refl
one_owner true true false = refl
one_owner true false h = refl
one_owner false true true = refl
one_owner false true false = refl
one_owner false false h = refl

module _ {g : List ℕ} {owners used : List Bool} {at : ℕ} (r : Noting g owners used at) (next : ℕ) where
  -- on over a row
  pub noting_row : enumerants_of (items (drop at g)) ≡ enumerants_of (items (drop next g)) → Noting g owners used next
  noting_row e = record { seen = r.seen; all = r.all ∙ ap (λ (es : List Enumerant). r.seen ++ es) e; sizes = r.sizes; owned = r.owned; taken = r.taken }

  -- on over an enumerant
  pub noting_enumerant : (e : Enumerant) → enumerants_of (items (drop at g)) ≡ e ∷ enumerants_of (items (drop next g)) → (owners' used' : List Bool)
      → NotedBy (is_owner e.kind e.parameters) owners owners' → NotedBy (λ k. is_in k e.parameters) used used' → Noting g owners' used' next
  unfolding is_owner parameterless parameters_in
  noting_enumerant e more owners' used' o u = record {
    seen = r.seen ++ (e ∷ []);
    all =
        r.all ∙ ap (λ (es : List Enumerant). r.seen ++ es) more
        ∙ sym (append_assoc r.seen (e ∷ []) (enumerants_of (items (drop next g))));
    sizes = (o.size ∙ r.sizes.0, u.size ∙ r.sizes.1);
    owned = λ k.
        o.noted k ∙ ap (λ (t : Bool). (t && has 1 e.parameters) || get_or owners k false) (eqb_swap k e.kind)
        ∙ ap (λ (t : Bool). (eqb e.kind k && has 1 e.parameters) || t) (r.owned k)
        ∙ sym
        (ap not (every_more (λ e. implies (eqb e.kind k) (not (has 1 e.parameters))) r.seen e)
        ∙ one_owner (parameterless r.seen k) (eqb e.kind k) (has 1 e.parameters));
    taken = λ k.
        u.noted k ∙ ap (λ (t : Bool). is_in k e.parameters || t) (r.taken k)
        ∙ or_swap (is_in k e.parameters) (is_in k (parameters_in r.seen))
        ∙ sym (ap (is_in k) (joined_more (λ e. e.parameters) r.seen e) ∙ in_both k (parameters_in r.seen) e.parameters);
  }

-- NONE IS BOTH

-- kinds that are apart: none is noted in both
apart_told : (o u : List Bool) → is_apart o u ≡ true → (k : ℕ) → get_or o k false ≡ true → get_or u k false ≡ true → ⊥
unfolding is_apart
apart_told [] u e k a b = false≢true a
apart_told (x ∷ o) [] e k a b = false≢true b
apart_told (x ∷ o) (y ∷ u) e zero a b = false≢true (rw (a, b) at (left (not (x && y)) (is_apart o u) e))
apart_told (x ∷ o) (y ∷ u) e (suc k) a b = apart_told o u (right (not (x && y)) (is_apart o u) e) k a b

-- kinds that are not apart: one that is noted in both
apart_not : (o u : List Bool) → is_apart o u ≡ false → (k : ℕ) × (get_or o k false ≡ true) × (get_or u k false ≡ true)
unfolding is_apart
apart_not [] u e = absurd (true≢false e)
apart_not (x ∷ o) [] e = absurd (true≢false e)
apart_not (true ∷ o) (true ∷ u) e = (0, refl, refl)
apart_not (true ∷ o) (false ∷ u) e = let r = apart_not o u e in (suc r.0, r.1, r.2)
apart_not (false ∷ o) (y ∷ u) e = let r = apart_not o u e in (suc r.0, r.1, r.2)

-- each of some numbers passes, where those that are in the list do
every_in : (f : ℕ → Bool) (l : List ℕ) → ((k : ℕ) → is_in k l ≡ true → f k ≡ true) → every f l ≡ true
every_in f [] h = refl
every_in f (x ∷ l) h = both (h x (simp (eq-eqb x x refl))) (every_in f l (λ k e. h k (rw (e, or_swap (eqb k x) true))))

-- one that is in the list does not
every_out : (f : ℕ → Bool) (l : List ℕ) (k : ℕ) → is_in k l ≡ true → f k ≡ false → every f l ≡ true → ⊥
every_out f [] k e n h = false≢true e
every_out f (x ∷ l) k e n h =
    cases (eqb k x) (λ t. false≢true (sym n ∙ ap f (eqb-true k x t) ∙ left (f x) (every f l) h))
    (λ t. every_out f l k (rw t at e) n (right (f x) (every f l) h))

-- one test holds where another does, and fails where it fails
same_test : (a b : Bool) → (a ≡ true → b ≡ true) → (a ≡ false → b ≡ true → ⊥) → a ≡ b
same_test true b f n = sym (f refl)
same_test false true f n = absurd (n refl refl)
same_test false false f n = refl

-- numbers of which each passes, by the notes of those that do not and of those that there are
apart_every : (f : ℕ → Bool) (l : List ℕ) (o u : List Bool) → ((k : ℕ) → get_or o k false ≡ not (f k)) → ((k : ℕ) → get_or u k false ≡ is_in k l) → is_apart o u ≡ every f l
apart_every f l o u owned used =
    same_test (is_apart o u) (every f l)
    (λ e. every_in f l (λ k i. cases (f k) (λ t. t) (λ n. absurd (apart_told o u e k (owned k ∙ ap not n) (used k ∙ i)))))
    (λ e h.
    let r = apart_not o u e in
    every_out f l r.0 (sym (used r.0) ∙ r.2) (not-true (f r.0) (sym (owned r.0) ∙ r.1)) h)

-- past the last enumerant: all are noted
pub noting_end : {g : List ℕ} {owners used : List Bool} {at : ℕ} → Noting g owners used at → length g ≤ at → Noted g owners used
unfolding enumerants_of
noting_end {g} {owners} {used} {at} r h =
    let all : enumerants_of (items g) ≡ r.seen = r.all ∙ rw (items_end g at h) (append-nil r.seen) in
    record { sizes = r.sizes; owned = rw all r.owned; taken = rw all r.taken }

-- where no kind is noted in both, the parameters of one grammar are of kinds that have none in the other
pub noted_apart : {a b : List ℕ} {owners used owners' used' : List Bool} → Noted a owners used → Noted b owners' used'
    → is_apart owners used' ≡ flat_over (enumerants_of (items a)) (enumerants_of (items b))
unfolding flat_over parameters_in
noted_apart {a} {b} {owners} {used} {owners'} {used'} r s =
    apart_every (parameterless (enumerants_of (items a))) (parameters_in (enumerants_of (items b))) owners used' r.owned s.taken
    ∙ every_joined (parameterless (enumerants_of (items a))) (λ e. e.parameters) (enumerants_of (items b))

-- in one grammar all are flat then
pub noted_flat : {g : List ℕ} {owners used : List Bool} → Noted g owners used → is_apart owners used ≡ all_flat (enumerants_of (items g))
unfolding all_flat flat_over
noted_flat r = noted_apart r r
