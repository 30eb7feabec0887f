-- Laws of the walk over parameters, of the bits of a mask, and of operands with their parameters.
use Prim.Native.Nat.{ℕ, zero, suc, ◌+◌, ◌*◌, ◌-◌, ◌/◌, ◌%◌, ◌<◌, ◌≤◌}
use mathlib.Core.Path.{◌≡◌, refl, ap, sym, ◌∙◌}
use mathlib.Core.Bool.{Bool, true, false, and-eq-true_iff}
use mathlib.Core.List.{List, [], ◌∷◌, ◌++◌, append-nil}
use Rattle.std.specs.Prelude.{Option, None, Some}
use native.Mathlib.Omega.{arith}
use borrow.Author.Tests.{eq-eqb, ne_eqb}
use lib.Dec.{eqb}
use lib.ListN.{drop}
use Rattle.spec.specs.declared.Refusal.{Refusal}
use Rattle.std.specs.Prelude.{if◌then◌else◌}
use Rattle.spec.specs.Base.{every}
use Rattle.spec.specs.Words.{bits_from, bits_of}
use Rattle.spec.specs.Kinds.{is_mask, is_enum}
use Rattle.spec.specs.Records.{Operand, narrow}
use Rattle.spec.specs.Reader.{Reader, Read, got, refused, Parse, after}
use Rattle.spec.specs.Grammar.{Grammar, Enumerant, grammar_of, items, parameters_of, listed, both_listed, bits_listed, parameters_for}
use Rattle.spec.specs.Match.{Known, with_parameters, parts_of, read_enumerant, read_each, read_operand}
use Rattle.decoder.specs.declared.Decoder.{Decoder}
use Rattle.decoder.specs.Answer.{reader_of}
use Rattle.grammar.specs.Find.{place_found, parameters_found, parameters_then, parameter_bytes}
use Rattle.used.specs.declared.used.Used.{Used}
use Rattle.used.specs.Parse.{Went, Few, Held, Spotted, Accepted, Parses, prefix, is_single, or_none, bit_parameters, parameters_are, if_set, parameters_at}
use Rattle.untyped.specs.Enums.{KnownAs}
use Rattle.untyped.proofs.Walk.{prefix_prefix, prefix_nil, cons_prefix, each_cons, went_nowhere, went_then, held_then, held_nothing, spotted_nothing, spotted_then, seq, first_done, first_bad}
use Rattle.decoder.specs.Answer.{Answered}
use Rattle.std.specs.Prelude.{Err, Ok}

-- SOME KINDS, THEN OTHERS

prefix_after : (a : List Operand) (y : Read (List Operand)) (f : Reader → Read (List Operand))
    → prefix a (after y (λ os q. prefix os (f q))) ≡ after (prefix a y) (λ os q. prefix os (f q))
unfolding prefix
prefix_after a (got os r) f = prefix_prefix a os (f r)
prefix_after a (refused y r) f = refl

append_by : (g : Grammar) (a b : List ℕ) (m : Read (List Operand))
    → ((q : Reader) → read_each g (a ++ b) q ≡ after (read_each g a q) (λ os u. prefix os (read_each g b u)))
    → after m (λ os q. prefix os (read_each g (a ++ b) q))
    ≡ after (after m (λ os q. prefix os (read_each g a q))) (λ os u. prefix os (read_each g b u))
append_by g a b (got os r) ih = ap (prefix os) (ih r) ∙ prefix_after os (read_each g a r) (read_each g b)
append_by g a b (refused y r) ih = refl

-- some kinds, then others
pub each_append : (g : Grammar) (a b : List ℕ) (r : Reader) → read_each g (a ++ b) r ≡ after (read_each g a r) (λ os q. prefix os (read_each g b q))
unfolding read_each
each_append g [] b r = sym (prefix_nil (read_each g b r))
each_append g (k ∷ a) b r =
    each_cons g k (a ++ b) r ∙ append_by g a b (read_each g (k ∷ []) r) (each_append g a b)
    ∙ ap (λ (m : Read (List Operand)). after m (λ os u. prefix os (read_each g b u))) (sym (each_cons g k a r))

-- the first were read
pub each_done : (g : Grammar) (a b : List ℕ) (r q : Reader) (os : List Operand) → read_each g a r ≡ got os q → read_each g (a ++ b) r ≡ prefix os (read_each g b q)
each_done g a b r q os e = each_append g a b r ∙ ap (λ (y : Read (List Operand)). after y (λ ps u. prefix ps (read_each g b u))) e

-- the same kinds
pub same_each : (g : Grammar) (ks js : List ℕ) (r : Reader) → ks ≡ js → read_each g ks r ≡ read_each g js r
same_each g ks js r e = ap (λ (l : List ℕ). read_each g l r) e

-- THE WALK

-- what a walk has done: some operands are held, and what is left is read from here
pub record Running (s : List ℕ) (x : Read (List Operand)) (log₀ strs₀ log strs : List ℕ) (c₀ : Used) (d₀ d : Decoder) (c : Used) (rest : Parse (List Operand)) : Type 0 where
  pub acc : List Operand
  pub held : Held log₀ strs₀ log strs c₀ c acc
  pub whole : x ≡ prefix acc (rest (reader_of s d))
  pub few : Few s d c
  pub went : Went d₀ d 0
  pub spotted : Spotted s d₀ d c₀ c acc

-- nothing yet
pub begins : (s : List ℕ) (log strs : List ℕ) (d : Decoder) (c : Used) (rest : Parse (List Operand)) → Few s d c
    → Running s (rest (reader_of s d)) log strs log strs c d d c rest
begins s log strs d c rest f = record {
  acc = [];
  held = held_nothing log strs c;
  whole = sym (prefix_nil _);
  few = f;
  went = went_nowhere d;
  spotted = spotted_nothing s d c;
}

module _ {s : List ℕ} {x : Read (List Operand)} {log₀ strs₀ log strs : List ℕ} {c₀ : Used} {d₀ d : Decoder} {c : Used} {rest : Parse (List Operand)}
    (r : Running s x log₀ strs₀ log strs c₀ d₀ d c rest) where
  -- nothing left
  pub ends : rest (reader_of s d) ≡ got [] (reader_of s d) → Parses s d₀ 0 x log₀ strs₀ log strs c₀ (Ok (c, d))
  unfolding Parses prefix
  ends e = record {
    operands = r.acc;
    read = r.whole ∙ ap (prefix r.acc) e ∙ ap (λ (os : List Operand). got os (reader_of s d)) (append-nil r.acc);
    held = r.held;
    few = r.few;
    went = r.went;
    spotted = r.spotted;
  }

  module _ (y : Read (List Operand)) (b : Parse (List Operand)) (e : rest (reader_of s d) ≡ after y (λ os q. prefix os (b q))) where
    -- they are read
    pub turn : {log₁ strs₁ : List ℕ} {m : ℕ} {f : Decoder} {n : Used} → Accepted s d m y log strs log₁ strs₁ c f n
        → Running s x log₀ strs₀ log₁ strs₁ c₀ d₀ f n b
    turn {log₁} {strs₁} {m} {f} {n} t = record {
      acc = r.acc ++ t.operands;
      held = held_then r.held t.held;
      whole = r.whole ∙ ap (prefix r.acc) (first_done _ y b e t.operands _ t.read) ∙ prefix_prefix r.acc t.operands _;
      few = t.few;
      went = went_then r.went t.went;
      spotted = spotted_then r.spotted t.spotted;
    }

    -- they are refused
    pub stops : (log₁ strs₁ : List ℕ) (m : ℕ) (v : Answered Used) (z : Refusal) (f : Decoder)
        → Parses s d m y log strs log₁ strs₁ c v → v ≡ Err (z, f) → Parses s d₀ 0 x log₀ strs₀ log₁ strs₁ c₀ v
    stops log₁ strs₁ m v z f h q =
        seq r.held s m log₁ strs₁ x _ r.went r.spotted r.whole v (first_bad _ y b e s d m log strs log₁ strs₁ c v z f h q)

-- no kinds left
pub each_none : (g : Grammar) (ks : List ℕ) (r : Reader) → ks ≡ [] → read_each g ks r ≡ got [] r
unfolding read_each
each_none g ks r e = rw e

-- the next kinds, then the rest
pub each_next : (g : Grammar) (ks a b : List ℕ) (r : Reader) → ks ≡ a ++ b → read_each g ks r ≡ after (read_each g a r) (λ os q. prefix os (read_each g b q))
each_next g ks a b r e = same_each g ks (a ++ b) r e ∙ each_append g a b r

-- no kinds at all
pub nothing : (s : List ℕ) (g : Grammar) (log strs : List ℕ) (d : Decoder) (c : Used) (rest : List ℕ) → Few s d c → rest ≡ []
    → Parses s d 0 (read_each g rest (reader_of s d)) log strs log strs c (Ok (c, d))
nothing s g log strs d c rest f e = ends (begins s log strs d c (read_each g rest) f) (each_none g rest (reader_of s d) e)

-- PARAMETERS

-- a parameter stands there
pub kind_told : (g : List ℕ) (p : ℕ) (v : Option ℕ) (j : ℕ) → parameters_of (items (drop p g)) ≡ parameters_then v (parameters_of (items (drop (p + 2) g)))
    → v ≡ Some j → parameters_at g p ≡ (j ∷ []) ++ parameters_at g (p + 2)
unfolding parameters_at parameters_then
kind_told g p v j h e = rw e at h

-- none does
pub none_told : (g : List ℕ) (p : ℕ) (v : Option ℕ) → parameters_of (items (drop p g)) ≡ parameters_then v (parameters_of (items (drop (p + 2) g)))
    → v ≡ None → parameters_at g p ≡ []
unfolding parameters_at parameters_then
none_told g p v h e = rw e at h

-- it has two bytes
pub bytes_told : (n : ℕ) (v : Option ℕ) (j : ℕ) → parameter_bytes v ≤ n → v ≡ Some j → 2 ≤ n
unfolding parameter_bytes
bytes_told n v j h e = rw e at h

-- the first of kinds that are each one record, and the rest
pub single_first : (ks js : List ℕ) (j : ℕ) → every is_single ks ≡ true → ks ≡ (j ∷ []) ++ js → (is_single j ≡ true) × (every is_single js ≡ true)
single_first ks js j h e = (and-eq-true_iff (is_single j) (every is_single js)).0 (rw e at h)

-- the parameters of an enumerant that was found
pub found_at : (g : List ℕ) (f : Option ℕ) (p : ℕ) (o : Option (List ℕ)) → parameters_found g f ≡ o → f ≡ Some p → or_none o ≡ parameters_at g p
unfolding parameters_found or_none parameters_at
found_at g f p o h e = rw e at (ap or_none (sym h))

-- of one that was not
pub found_none : (g : List ℕ) (f : Option ℕ) (o : Option (List ℕ)) → parameters_found g f ≡ o → f ≡ None → or_none o ≡ []
unfolding parameters_found or_none
found_none g f o h e = rw e at (ap or_none (sym h))

-- where it was found
pub place_told : (f : Option ℕ) (p n : ℕ) → place_found f ≤ n → f ≡ Some p → p ≤ n
unfolding place_found
place_told f p n h e = rw e at h

-- they are each one record
pub same_single : (ks js : List ℕ) → every is_single ks ≡ true → ks ≡ js → every is_single js ≡ true
same_single ks js h e = rw e at h

-- BITS

-- twice as much so often
unfoldable pub doubled : ℕ → ℕ → ℕ
doubled zero b = b
doubled (suc n) b = doubled n (2 * b)

doubled_more : (n b : ℕ) → b ≤ doubled n b
unfolding doubled
doubled_more zero b = omega arith
doubled_more (suc n) b = omega (arith, doubled_more n (2 * b))

-- the lowest bit comes next
doubled_next : (n b : ℕ) → 0 < n → doubled n b ≡ 4294967296 → doubled (n - 1) (2 * b) ≡ 4294967296
unfolding doubled
doubled_next zero b h e = absurd (omega arith)
doubled_next (suc n) b h e = let p : suc n - 1 ≡ n = omega arith in rw p e

-- it is a word
doubled_small : (n b : ℕ) → 0 < n → doubled n b ≡ 4294967296 → 2 * b ≤ 4294967296
doubled_small n b h e = omega (arith, doubled_more (n - 1) (2 * b), doubled_next n b h e)

doubled_twice : (n b : ℕ) → doubled n (2 * b) ≡ 2 * doubled n b
unfolding doubled
doubled_twice zero b = refl
doubled_twice (suc n) b = doubled_twice n (2 * b)

-- something left has bits left
left_some : (n v : ℕ) → v < doubled n 1 → (v ≡ 0 → ⊥) → 0 < n
unfolding doubled
left_some zero v h i = absurd (omega (arith, h, i))
left_some (suc n) v h i = omega arith

-- half of it is left for the others
half_left : (n v : ℕ) → 0 < n → v < doubled n 1 → v / 2 < doubled (n - 1) 1
unfolding doubled
half_left zero v h i = absurd (omega arith)
half_left (suc n) v h i =
    let p : suc n - 1 ≡ n = omega arith in
    rw p (omega (arith, i, doubled_twice n 1))

set_by_lem : (k b : ℕ) (es : List Enumerant) (more : List ℕ) (t : Bool)
    → bit_parameters k es (if t then b ∷ more else more) ≡ (if t then or_none (listed k b es) else []) ++ bit_parameters k es more
unfolding bit_parameters
set_by_lem k b es more true = refl
set_by_lem k b es more false = refl

-- the parameters of the lowest bit, then those of the others
bits_next : (k n b v : ℕ) (es : List Enumerant) → 0 < n
    → bit_parameters k es (bits_from n b v) ≡ if_set k b v es ++ bit_parameters k es (bits_from (n - 1) (2 * b) (v / 2))
unfolding bits_from if_set
bits_next k zero b v es h = absurd (omega arith)
bits_next k (suc n) b v es h =
    let p : suc n - 1 ≡ n = omega arith in
    rw p (set_by_lem k b es (bits_from n (2 * b) (v / 2)) (eqb (v % 2) 1))

-- nothing left of a mask has no bits
pub bits_none : (k n b v : ℕ) (es : List Enumerant) → v ≡ 0 → bit_parameters k es (bits_from n b v) ≡ []
unfolding bits_from bit_parameters
bits_none k zero b v es h = refl
bits_none k (suc n) b v es h = rw h (bits_none k n (2 * b) 0 es refl)

-- what a walk over the bits of a mask has done: so many bits are left, and the lowest is worth so much
pub record Masked (s : List ℕ) (x : Read (List Operand)) (log₀ strs₀ log strs : List ℕ) (c₀ : Used) (d₀ d : Decoder) (c : Used) (g : Grammar) (k b v : ℕ) : Type 0 where
  pub left : ℕ
  pub running : Running s x log₀ strs₀ log strs c₀ d₀ d c (read_each g (bit_parameters k g.enumerants (bits_from left b v)))
  pub worth : doubled left b ≡ 4294967296
  pub small : v < doubled left 1

-- all bits of a mask, from the lowest on
pub begin_bits : (s : List ℕ) (g : Grammar) (log strs : List ℕ) (d : Decoder) (c : Used) (k v : ℕ) → Few s d c → v < 4294967296
    → Masked s (read_each g (bit_parameters k g.enumerants (bits_of v)) (reader_of s d)) log strs log strs c d d c g k 1 v
unfolding bits_of doubled
begin_bits s g log strs d c k v f h = record {
  left = 32;
  running = begins s log strs d c (read_each g (bit_parameters k g.enumerants (bits_from 32 1 v))) f;
  worth = refl;
  small = h;
}

module _ {s : List ℕ} {x : Read (List Operand)} {log₀ strs₀ log strs : List ℕ} {c₀ : Used} {d₀ d : Decoder} {c : Used} {g : Grammar} {k b v : ℕ}
    (r : Masked s x log₀ strs₀ log strs c₀ d₀ d c g k b v) (h : v ≡ 0 → ⊥) where
  more_left : 0 < r.left
  more_left = left_some r.left v r.small h

  -- the lowest bit is a word
  pub bit_small : 2 * b ≤ 4294967296
  bit_small = doubled_small r.left b more_left r.worth

  -- its parameters come next
  bit_first : read_each g (bit_parameters k g.enumerants (bits_from r.left b v)) (reader_of s d)
      ≡ after (read_each g (if_set k b v g.enumerants) (reader_of s d))
      (λ os q. prefix os (read_each g (bit_parameters k g.enumerants (bits_from (r.left - 1) (2 * b) (v / 2))) q))
  bit_first = each_next _ _ _ _ _ (bits_next k r.left b v g.enumerants more_left)

  -- they are read
  pub bit_turn : {log₁ strs₁ : List ℕ} {m : ℕ} {f : Decoder} {n : Used}
      → Accepted s d m (read_each g (if_set k b v g.enumerants) (reader_of s d)) log strs log₁ strs₁ c f n
      → Masked s x log₀ strs₀ log₁ strs₁ c₀ d₀ f n g k (2 * b) (v / 2)
  bit_turn t = record {
    left = r.left - 1;
    running = turn r.running _ _ bit_first t;
    worth = doubled_next r.left b more_left r.worth;
    small = half_left r.left v more_left r.small;
  }

  -- they are refused
  pub bit_stops : (log₁ strs₁ : List ℕ) (m : ℕ) (p : Answered Used) (z : Refusal) (f : Decoder)
      → Parses s d m (read_each g (if_set k b v g.enumerants) (reader_of s d)) log strs log₁ strs₁ c p → p ≡ Err (z, f)
      → Parses s d₀ 0 x log₀ strs₀ log₁ strs₁ c₀ p
  bit_stops = stops r.running _ _ bit_first

-- a bit that is not set has none
pub set_none : (k b v : ℕ) (es : List Enumerant) → (v % 2 ≡ 1 → ⊥) → if_set k b v es ≡ []
unfolding if_set
set_none k b v es h = simp (ne_eqb (v % 2) 1 h)

-- one that is set has its own
pub set_listed : (k b v : ℕ) (es : List Enumerant) → v % 2 ≡ 1 → if_set k b v es ≡ or_none (listed k b es)
unfolding if_set
set_listed k b v es h = simp (eq-eqb (v % 2) 1 h)

-- VALUES

-- of a mask
pub are_bits : (k v : ℕ) (g : Grammar) (t : Bool) → t ≡ is_mask k → t ≡ true → parameters_are k v g ≡ bit_parameters k g.enumerants (bits_of v)
unfolding parameters_are
are_bits k v g t p q = let z : is_mask k ≡ true = sym p ∙ q in simp z

-- of another value
pub are_listed : (k v : ℕ) (g : Grammar) (t : Bool) → t ≡ is_mask k → t ≡ false → parameters_are k v g ≡ or_none (listed k v g.enumerants)
unfolding parameters_are
are_listed k v g t p q = let z : is_mask k ≡ false = sym p ∙ q in simp z

both_told : (a b : Option (List ℕ)) (ps : List ℕ) (qs : List ℕ) → ((r : List ℕ) → b ≡ Some r → qs ≡ r) → both_listed a b ≡ Some ps → or_none a ++ qs ≡ ps
unfolding or_none
both_told None b ps qs ih e = let z : ◌≡◌ {A = ℕ} 0 1 = cc in absurd (omega arith)
both_told (Some a) None ps qs ih e = let z : ◌≡◌ {A = ℕ} 0 1 = cc in absurd (omega arith)
both_told (Some a) (Some b) ps qs ih e = let z : a ++ b ≡ ps = cc in ap (λ (l : List ℕ). a ++ l) (ih b refl) ∙ z

bits_told : (k : ℕ) (es : List Enumerant) (bs ps : List ℕ) → bits_listed k bs es ≡ Some ps → bit_parameters k es bs ≡ ps
unfolding bits_listed bit_parameters
bits_told k es [] ps e = cc
bits_told k es (b ∷ bs) ps e = both_told (listed k b es) (bits_listed k bs es) ps (bit_parameters k es bs) (bits_told k es bs) e

are_by : (k v : ℕ) (g : Grammar) (ps : List ℕ) (t : Bool) → (if t then bits_listed k (bits_of v) g.enumerants else listed k v g.enumerants) ≡ Some ps
    → (if t then bit_parameters k g.enumerants (bits_of v) else or_none (listed k v g.enumerants)) ≡ ps
unfolding or_none
are_by k v g ps true e = bits_told k g.enumerants (bits_of v) ps e
are_by k v g ps false e = ap or_none e

-- the parameters of a value that is known
pub are_known : (k v : ℕ) (g : Grammar) (ps : List ℕ) → parameters_for k v g ≡ Some ps → ps ≡ parameters_are k v g
unfolding parameters_for parameters_are
are_known k v g ps e = sym (are_by k v g ps (is_mask k) e)

-- and where they start, unless it is a mask
pub place_listed : (s g : List ℕ) (k : ℕ) (d : Decoder) (v p : ℕ) (e : Decoder) → KnownAs s g k d v p e → is_mask k ≡ false
    → parameters_at g p ≡ or_none (listed k v (grammar_of g).enumerants)
place_listed s g k d v p e h m =
    h.place m ∙ are_known k v (grammar_of g) h.parameters h.listed ∙ are_listed k v (grammar_of g) (is_mask k) refl m

-- OPERANDS

module _ (s : List ℕ) (g : Grammar) (k : ℕ) (d : Decoder) (t : Bool) (p : t ≡ is_enum k) where
  operand_by_lem : t ≡ true → (y : Read Known) → read_enumerant g k (reader_of s d) ≡ y → read_operand g k (reader_of s d) ≡ after y (with_parameters g k)
  unfolding read_operand
  operand_by_lem q y h = let z : is_enum k ≡ true = sym p ∙ q in simp z (ap (λ (m : Read Known). after m (with_parameters g k)) h)

  -- no enumerant
  pub operand_bad : t ≡ true → (x : Refusal) (e : Decoder) → read_enumerant g k (reader_of s d) ≡ refused x (reader_of s e)
      → read_operand g k (reader_of s d) ≡ refused x (reader_of s e)
  operand_bad q x e h = operand_by_lem q _ h

  module _ (q : t ≡ false) where
    parts_are : read_operand g k (reader_of s d) ≡ read_each g (parts_of k) (reader_of s d)
    unfolding read_operand
    parts_are = let z : is_enum k ≡ false = sym p ∙ q in simp z

    -- an id and a number
    pub pair_number : k ≡ 50 → read_operand g k (reader_of s d) ≡ read_each g (33 ∷ 34 ∷ []) (reader_of s d)
    pair_number h = parts_are ∙ ap (λ (i : ℕ). read_each g (parts_of i) (reader_of s d)) h

    -- two ids
    pub pair_ids : k ≡ 51 → read_operand g k (reader_of s d) ≡ read_each g (33 ∷ 33 ∷ []) (reader_of s d)
    pair_ids h = parts_are ∙ ap (λ (i : ℕ). read_each g (parts_of i) (reader_of s d)) h

    -- one record
    pub single : (k ≡ 50 → ⊥) → (k ≡ 51 → ⊥) → read_operand g k (reader_of s d) ≡ read_each g (k ∷ []) (reader_of s d)
    single h i = parts_are ∙ simp (ne_eqb k 50 h, ne_eqb k 51 i)

-- an enumerant, then its parameters
pub operand_known : (s g : List ℕ) (k : ℕ) (d : Decoder) (t : Bool) → t ≡ is_enum k → t ≡ true → (w p : ℕ) (e : Decoder) → KnownAs s g k d w p e
    → read_operand (grammar_of g) k (reader_of s d) ≡ prefix (narrow k w ∷ []) (read_each (grammar_of g) (parameters_are k w (grammar_of g)) (reader_of s e))
operand_known s g k d t b q w p e h =
    operand_by_lem s (grammar_of g) k d t b q _ h.read ∙ cons_prefix (narrow k w) (read_each (grammar_of g) h.parameters (reader_of s e))
    ∙ ap (λ (ps : List ℕ). prefix (narrow k w ∷ []) (read_each (grammar_of g) ps (reader_of s e))) (are_known k w (grammar_of g) h.parameters h.listed)
