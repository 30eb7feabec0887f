-- Laws of embedded operations: a row's operands at their places, each read once, and the operation before them.
use Prim.Native.Nat.{ℕ, ◌%◌, ◌/◌, ◌<◌}
use mathlib.Core.Path.{◌≡◌, refl, ap, sym, ◌∙◌}
use mathlib.Core.Bool.{Bool, true, false, not, ◌||◌, and-eq-true_iff}
use mathlib.Core.List.{List, [], ◌∷◌, ◌++◌}
use Rattle.std.specs.Prelude.{Option, None, Some}
use native.Mathlib.Omega.{arith}
use borrow.Author.Tests.{not-true, not-false, lt-ltb, le-ltb, ltb-true, ltb-false}
use lib.Dec.{eqb, ltb}
use Rattle.spec.specs.declared.Refusal.{Refusal}
use Rattle.std.specs.Prelude.{if◌then◌else◌}
use Rattle.spec.specs.Base.{every}
use Rattle.spec.proofs.Choice.{cases}
use Rattle.spec.specs.Kinds.{is_result, may_be_operand, may_embed}
use Rattle.spec.specs.Records.{Operand, narrow}
use Rattle.spec.specs.Reader.{Reader, Read, got, refused, after, give, refusal, reader_at}
use Rattle.spec.specs.Grammar.{Grammar, Slot, slot, row_of, grammar_of}
use Rattle.spec.specs.Match.{read_operand, read_once, embeds, embedded_by, read_embedded}
use Rattle.decoder.specs.declared.Decoder.{Decoder}
use Rattle.decoder.specs.Answer.{reader_of, word_from}
use Rattle.decoder.proofs.Laws.{word_got, word_refused}
use Rattle.grammar.specs.Find.{row_found}
use Rattle.used.specs.declared.used.Used.{Used}
use Rattle.used.specs.Parse.{Parses, prefix, is_operand, is_inner, once_alone, slots_at, selector_of, notes_of, Pushed}
use Rattle.untyped.proofs.Walk.{prefix_nil, cons_prefix, went_less}
use Rattle.used.proofs.TypeLaws.{in_three}
use Rattle.decoder.specs.Answer.{Answered}
use Rattle.std.specs.Prelude.{Err, Ok}

-- WHAT MAY BE EMBEDDED

may_by : (k : ℕ) (t : Bool) → (eqb k 39 || eqb k 48 || eqb k 49) ≡ t → may_embed k ≡ not t
may_by k t h = ap not (in_three (eqb k 39) (eqb k 48) (eqb k 49) ∙ h)

-- no operand is left
pub none_bars : (all : Bool) (ss : List Slot) → all ≡ every embeds ss → ss ≡ [] → true ≡ all
none_bars all ss h e = sym (h ∙ ap (every embeds) e)

module _ (all : Bool) (ss rest : List Slot) (k q : ℕ) (h : all ≡ every embeds ss) (e : ss ≡ slot k q ∷ rest) where
  -- this one may not be embedded
  pub one_bars : (eqb k 39 || eqb k 48 || eqb k 49) ≡ true → false ≡ all
  one_bars t = let z = may_by k true t in sym (h ∙ ap (every embeds) e ∙ simp z)

  -- this one may
  pub one_may : (eqb k 39 || eqb k 48 || eqb k 49) ≡ false → all ≡ every embeds rest
  one_may t = let z = may_by k false t in h ∙ ap (every embeds) e ∙ simp z

module _ (ss rest : List Slot) (k q : ℕ) (e : ss ≡ slot k q ∷ rest) where
  operand_first : every is_operand ss ≡ true → (may_be_operand k ≡ true) × (every is_operand rest ≡ true)
  unfolding is_operand
  operand_first h = (and-eq-true_iff (may_be_operand k) (every is_operand rest)).0 (sym (ap (every is_operand) e) ∙ h)

  embed_first : every embeds ss ≡ true → (may_embed k ≡ true) × (every embeds rest ≡ true)
  embed_first h = (and-eq-true_iff (may_embed k) (every embeds rest)).0 (sym (ap (every embeds) e) ∙ h)

  -- the first of an embedded row's operands
  pub inner_first : every is_operand ss ≡ true → every embeds ss ≡ true → is_inner k ≡ true
  unfolding is_inner
  inner_first h i = simp ((operand_first h).0, (embed_first i).0)

  -- and the rest
  pub inner_rest : every is_operand ss ≡ true → every embeds ss ≡ true → (every is_operand rest ≡ true) × (every embeds rest ≡ true)
  inner_rest h i = ((operand_first h).1, (embed_first i).1)

-- EACH READ ONCE

-- none
pub once_none : (g : Grammar) (ss : List Slot) (r : Reader) → ss ≡ [] → read_once g ss r ≡ got [] r
unfolding read_once
once_none g ss r e = rw e

then_prefix : (os : List Operand) (y : Read (List Operand)) → after y (λ more. give (os ++ more)) ≡ prefix os y
unfolding prefix
then_prefix os (got more r) = refl
then_prefix os (refused x r) = refl

once_some : (g : Grammar) (ss : List Slot) (m : Read (List Operand))
    → after m (λ os u. after (read_once g ss u) (λ more. give (os ++ more))) ≡ after m (λ os u. prefix os (read_once g ss u))
once_some g ss (got os u) = then_prefix os (read_once g ss u)
once_some g ss (refused x u) = refl

once_by : (g : Grammar) (k : ℕ) (ss : List Slot) (r : Reader) (t : Bool)
    → (if t then read_once g ss else (λ u. after (read_operand g k u) (λ os v. after (read_once g ss v) (λ more. give (os ++ more))))) r
    ≡ after ((if t then give [] else read_operand g k) r) (λ os u. prefix os (read_once g ss u))
once_by g k ss r true = sym (prefix_nil (read_once g ss r))
once_by g k ss r false = once_some g ss (read_operand g k r)

-- one operand, nothing for a result, then the rest
pub once_next : (g : Grammar) (ss rest : List Slot) (k q : ℕ) (r : Reader) → ss ≡ slot k q ∷ rest
    → read_once g ss r ≡ after (once_alone g k r) (λ os u. prefix os (read_once g rest u))
unfolding read_once once_alone
once_next g ss rest k q r e = ap (λ (l : List Slot). read_once g l r) e ∙ once_by g k rest r (is_result k)

module _ (s : List ℕ) (g : Grammar) (k : ℕ) (d : Decoder) (t : Bool) (p : t ≡ is_result k) where
  -- nothing for a result
  pub alone_result : t ≡ true → once_alone g k (reader_of s d) ≡ got [] (reader_of s d)
  unfolding once_alone
  alone_result q = let z : is_result k ≡ true = sym p ∙ q in simp z

  -- any other is read
  pub alone_operand : t ≡ false → once_alone g k (reader_of s d) ≡ read_operand g k (reader_of s d)
  unfolding once_alone
  alone_operand q = let z : is_result k ≡ false = sym p ∙ q in simp z

-- the read that is meant, however few words it takes
pub less_read : (s : List ℕ) (d : Decoder) (m : ℕ) (x z : Read (List Operand)) (l₀ t₀ l t : List ℕ) (c : Used) (v : Answered Used)
    → x ≡ z → Parses s d m z l₀ t₀ l t c v → Parses s d 0 x l₀ t₀ l t c v
unfolding Parses
less_read s d m x z l₀ t₀ l t c (Ok (n, e)) q h = record {
  operands = h.operands;
  read = q ∙ h.read;
  held = h.held;
  few = h.few;
  went = went_less h.went;
  spotted = h.spotted;
}
less_read s d m x z l₀ t₀ l t c (Err (y, e)) q h = q ∙ h

-- ITS OPCODE

-- a record more, whatever breaks it
pub pushed_breaks : (k v b : ℕ) (u n : Used) → Pushed k v u n
    → Pushed k v u (record { rtype = n.rtype; rid = n.rid; operands = n.operands; kind1 = n.kind1; value1 = n.value1; kind2 = n.kind2; value2 = n.value2; log = n.log; strings = n.strings; base = n.base; breaks = b })
unfolding notes_of selector_of
pushed_breaks k v b u n p =
    record { rtype = p.rtype; rid = p.rid; base = p.base; strings = p.strings; log = p.log; noted = p.noted; fits = p.fits }

-- a word has something above its low sixteen bits
pub opcode_breaks : (w at : ℕ) → (w / 65536 ≡ 0 → ⊥) → at ≡ (if ltb 65535 w then at else 0)
opcode_breaks w at h = let z : 65535 < w = cases (ltb 65535 w) (λ e. ltb-true 65535 w e) (λ e. absurd (h (omega (arith, ltb-false 65535 w e)))) in simp (lt-ltb 65535 w z)

-- it has nothing there
pub opcode_low : (w at : ℕ) → w / 65536 ≡ 0 → 0 ≡ (if ltb 65535 w then at else 0)
opcode_low w at h = simp (le-ltb 65535 w (omega arith))

-- THE OPERATION

module _ (s : List ℕ) (g : Grammar) (d : Decoder) where
  -- no word
  pub embedded_bad : (x : Refusal) (e : Decoder) → Err (x, e) ≡ word_from s d → read_embedded g (reader_of s d) ≡ refused x (reader_of s e)
  unfolding read_embedded
  embedded_bad x e h =
      ap (λ (y : Read ℕ). after y (λ w. embedded_by g (w % 65536) (row_of (w % 65536) g.rows))) (word_refused s d e x h)

  embedded_by_lem : (w : ℕ) (e : Decoder) → Ok (w, e) ≡ word_from s d → (o : Option (List Slot)) → row_of (w % 65536) g.rows ≡ o
      → read_embedded g (reader_of s d) ≡ embedded_by g (w % 65536) o (reader_of s e)
  unfolding read_embedded
  embedded_by_lem w e h o l =
      ap (λ (y : Read ℕ). after y (λ w. embedded_by g (w % 65536) (row_of (w % 65536) g.rows))) (word_got s d e w h).reads
      ∙ ap (λ (z : Option (List Slot)). embedded_by g (w % 65536) z (reader_of s e)) l

-- a row that was found
pub row_told : (g : List ℕ) (f : Option ℕ) (p : ℕ) (o : Option (List Slot)) → row_found g f ≡ o → f ≡ Some p → o ≡ Some (slots_at g p)
unfolding row_found slots_at
row_told g f p o h e = sym h ∙ ap (row_found g) e

none_found : (g : List ℕ) (f : Option ℕ) (o : Option (List Slot)) → row_found g f ≡ o → f ≡ None → o ≡ None
unfolding row_found
none_found g f o h e = sym h ∙ ap (row_found g) e

module _ (s g : List ℕ) (d : Decoder) (w : ℕ) (e : Decoder) (h : Ok (w, e) ≡ word_from s d) (f : Option ℕ)
    (l : row_found g f ≡ row_of (w % 65536) (grammar_of g).rows) where
  -- it has no row: 13 after the number
  pub embedded_none : f ≡ None → read_embedded (grammar_of g) (reader_of s d) ≡ refused (refusal 13 e.offset 0) (reader_of s e)
  unfolding reader_of reader_at
  embedded_none q = embedded_by_lem s (grammar_of g) d w e h None (none_found g f _ l q)

  module _ (p : ℕ) (q : f ≡ Some p) (t : Bool) (i : t ≡ every embeds (slots_at g p)) where
    -- its row may not be embedded: 14 after the number
    pub embedded_barred : not t ≡ true → read_embedded (grammar_of g) (reader_of s d) ≡ refused (refusal 14 e.offset 0) (reader_of s e)
    unfolding reader_of reader_at
    embedded_barred j =
        let z : every embeds (slots_at g p) ≡ false = sym i ∙ not-true t j in
        embedded_by_lem s (grammar_of g) d w e h _ (row_told g f p _ l q) ∙ simp z

    -- its number, then its operands
    pub embedded_row : not t ≡ false
        → read_embedded (grammar_of g) (reader_of s d) ≡ prefix (narrow 39 (w % 65536) ∷ []) (read_once (grammar_of g) (slots_at g p) (reader_of s e))
    embedded_row j =
        let z : every embeds (slots_at g p) ≡ true = sym i ∙ not-false t j in
        embedded_by_lem s (grammar_of g) d w e h _ (row_told g f p _ l q) ∙ simp z (cons_prefix (narrow 39 (w % 65536)) (read_once (grammar_of g) (slots_at g p) (reader_of s e)))
