-- What operands are read from, with one law for each way in which they are read.
use Prim.Native.Nat.{ℕ, ◌/◌, ◌%◌}
use mathlib.Core.Path.{◌≡◌, refl, ◌∙◌, subst, fun_ext}
use mathlib.Core.Bool.{Bool, true, false}
use mathlib.Core.List.{List, [], ◌∷◌, ◌++◌}
use Rattle.std.specs.Prelude.{Option, None, Some}
use native.Mathlib.Omega.{arith}
use lib.Dec.{eqb}
use lib.ListN.{length-append}
use Rattle.spec.specs.Base.{every}
use Rattle.spec.specs.Words.{long}
use Rattle.spec.specs.Kinds.{is_enum, is_result, may_be_operand, may_be_parameter, may_embed, is_long, is_text}
use Rattle.spec.specs.Reader.{Parse, Read, got, refused, after, ◌>>=◌, ◌into◌, give, read_word, read_long}
use Rattle.spec.specs.Grammar.{Slot, slot, Grammar, row_of}
use Rattle.spec.specs.Records.{Operand, narrow, wide, text, Entry}
use Rattle.spec.specs.Match.{Known, known, value_of, read_one, read_each, with_parameters, parts_of, read_operand, literal_kind_of, read_literal_as, type_of, read_literal, read_once, embeds, embedded_by, read_embedded, Seen, selector, read_pair, read_kind}
use Rattle.demands.proofs.Choice.{left, right, other, IfSome}
use Rattle.demands.proofs.Bytes.{all_left, all_right}
use Rattle.demands.proofs.Reading.{Reads, give_reads, stop_reads, then_reads, into_reads, if_reads}
use Rattle.demands.proofs.Words.{Word, word_reads, KnownWord, enumerant_reads, opcode_reads}
use Rattle.demands.proofs.Strings.{text_reads}
use Rattle.demands.proofs.OperandKinds.{is_whole, enum_whole, parameter_whole, parts_parameters, LiteralKind, literal_kind_lem}
use Rattle.demands.proofs.Formed.{RowFrom, GrammarGood}
use Rattle.demands.proofs.Told.{Tells, narrow_tells, Long, wide_tells, text_tells, opcode_tells, Along, none_left_lem, one_more, along_one, along_append}

-- LITERALS

-- the bytes of a 64-bit literal are those of its two words
long_word : (a b : ℕ) (x y z w : List ℕ) → Word a x y → Word b z w → Long (long a b) (x ++ z) (y ++ w)
long_word a b x y z w p q =
    record {
      long = length-append x z ∙ omega (arith, p.long, q.long);
      exact = λ by.
          let low = p.exact (all_left x z by) in
          let high = q.exact (all_right x z by) in
          let e : long a b % 4294967296 ≡ a = omega arith in
          let f : long a b / 4294967296 ≡ b = omega arith in
          (omega arith, cc (low.1, high.1, p.are, q.are), cc (p.are, q.are));
    }

-- a 64-bit literal
long_reads : Reads Long read_long
unfolding read_long
long_reads = then_reads word_reads (λ a x y p. into_reads (long a) word_reads (λ b z w q. long_word a b x y z w p q))

-- a literal as a record of a kind
literal_as_reads : (o : Option ℕ) → LiteralKind o → Reads Tells (read_literal_as o)
unfolding read_literal_as
literal_as_reads None e = stop_reads (omega arith)
literal_as_reads (Some k) e =
    if_reads (is_long k) (λ t. into_reads (wide k) long_reads (λ v x y p. wide_tells k v x y t p))
    (λ t. into_reads (narrow k) word_reads (λ v x y p. narrow_tells k v x y (other (is_long k) (is_whole k) e t) p))

-- a literal by the type of an id
literal_reads : (types : List Entry) (id : Option ℕ) → Reads Tells (read_literal types id)
unfolding read_literal
literal_reads types id = literal_as_reads (literal_kind_of (type_of id types)) (literal_kind_lem (type_of id types))

-- a literal and an id
pair_reads : (types : List Entry) (os : List Operand) → Reads Along (read_pair types os)
unfolding read_pair
pair_reads types os =
    then_reads (literal_reads types (selector os)) (λ o x y p.
    into_reads (λ id. o ∷ narrow 33 id ∷ []) word_reads (λ id z w q. one_more p (along_one (narrow_tells 33 id z w refl q))))

-- MADE INTO SOMETHING ELSE BEFORE THE NEXT

-- to go on with what was made is to go on and make it there
into_after : {A B C : Type 0} (f : A → B) (k : B → Parse C) (y : Read A)
    → after (after y (λ a. give (f a))) k ≡ after y (λ a. k (f a))
into_after f k (got a r) = refl
into_after f k (refused x r) = refl

-- so for parses
into_then : {A B C : Type 0} (m : Parse A) (f : A → B) (k : B → Parse C)
    → ◌≡◌ {A = Parse C} ((m into f) >>= k) (m >>= (λ a. k (f a)))
into_then m f k = fun_ext (λ r. into_after f k (m r))

module _ (g : Grammar) (good : GrammarGood g) where
  -- ENUMERANTS, STRINGS, WORDS

  -- one record of a kind that a parameter may be of
  one_reads : (k : ℕ) → may_be_parameter k ≡ true → Reads Tells (read_one g k)
  unfolding read_one
  one_reads k p =
      if_reads (is_enum k) (λ t. into_reads (λ x. narrow k (value_of x)) (enumerant_reads g k) (by t))
      (λ e. if_reads (is_text k) (λ t. into_reads text text_reads text_tells)
      (λ t. into_reads (narrow k) word_reads (λ v x y w. narrow_tells k v x y (parameter_whole k p t) w)))
    where
      by : is_enum k ≡ true → (a : Known) (x y : List ℕ) → KnownWord g k a x y → Tells (narrow k (value_of a)) x y
      by t (known v ps) x y w = narrow_tells k v x y (enum_whole k t) w.0

  -- one record of each of such kinds
  each_reads : (ks : List ℕ) → every may_be_parameter ks ≡ true → Reads Along (read_each g ks)
  unfolding read_each
  each_reads [] p = give_reads none_left_lem
  each_reads (k ∷ ks) p =
      then_reads (one_reads k (left (may_be_parameter k) (every may_be_parameter ks) p)) (λ o x y t.
      into_reads (λ os. o ∷ os) (each_reads ks (right (may_be_parameter k) (every may_be_parameter ks) p)) (λ os z w a. one_more t a))

  -- an operand with its parameters, of a kind that is no result and may be embedded
  operand_reads : (k : ℕ) → may_be_operand k ≡ true → is_result k ≡ false → may_embed k ≡ true → Reads Along (read_operand g k)
  unfolding read_operand
  operand_reads k o r m =
      if_reads (is_enum k) (λ t. then_reads (enumerant_reads g k) (by t)) (λ t. each_reads (parts_of k) (parts_parameters k o r m))
    where
      by : is_enum k ≡ true → (a : Known) (x y : List ℕ) → KnownWord g k a x y
          → Reads (λ os z w. Along os (x ++ z) (y ++ w)) (with_parameters g k a)
      by t (known v ps) x y p =
          into_reads (λ os. narrow k v ∷ os)
          (each_reads ps (subst (IfSome (λ qs. every may_be_parameter qs ≡ true)) p.1 (good.parameters k v)))
          (λ os z w a. one_more (narrow_tells k v x y (enum_whole k t) p.0) a)

  -- EMBEDDED OPERATIONS

  -- the operands of an embedded row
  once_reads : (t i : Bool) (ss : List Slot) → RowFrom t i ss → every embeds ss ≡ true → Reads Along (read_once g ss)
  unfolding read_once
  once_reads t i [] row e = give_reads none_left_lem
  once_reads t i (slot k q ∷ ss) row e =
      let more = once_reads false _ ss row.3 (right (may_embed k) (every embeds ss) e) in
      if_reads (is_result k) (λ r. more) (λ r.
      then_reads (operand_reads k row.0 r (left (may_embed k) (every embeds ss) e)) (λ os x y a.
      into_reads (λ ps. os ++ ps) more (λ ps z w b. along_append a b)))

  -- an embedded operation
  embedded_reads : Reads Along (read_embedded g)
  unfolding read_embedded
  embedded_reads =
      subst (Reads Along) (into_then read_word (λ w. w % 65536) (λ op. embedded_by g op (row_of op g.rows)))
      (then_reads opcode_reads (λ op x y p. by op x y (opcode_tells op x y p) (row_of op g.rows) (good.rows op)))
    where
      by : (op : ℕ) (x y : List ℕ) → Tells (narrow 39 op) x y → (o : Option (List Slot)) → IfSome (RowFrom true true) o
          → Reads (λ os z w. Along os (x ++ z) (y ++ w)) (embedded_by g op o)
      by op x y p None row = stop_reads (omega arith)
      by op x y p (Some ss) row =
          if_reads (every embeds ss)
          (λ t. into_reads (λ os. narrow 39 op ∷ os) (once_reads true true ss row t) (λ os z w a. one_more p a))
          (λ t. stop_reads (omega arith))

  -- ROWS

  -- an operand of a row that is no result, after what is seen
  pub kind_reads : (types : List Entry) (s : Seen) (k : ℕ) → may_be_operand k ≡ true → is_result k ≡ false
      → Reads Along (read_kind g types s k)
  unfolding read_kind
  kind_reads types s k o r =
      if_reads (eqb k 48) (λ t. into_reads (λ o. o ∷ []) (literal_reads types s.result_type) (λ o x y p. along_one p))
      (λ e48. if_reads (eqb k 49) (λ t. pair_reads types s.operands)
      (λ e49. if_reads (eqb k 39) (λ t. embedded_reads) (λ e39. operand_reads k o r (rw (e39, e48, e49)))))
