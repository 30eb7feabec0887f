-- Laws of reads in sequence and of the stores along them.
use Prim.Native.Nat.{ℕ, ◌+◌, ◌*◌, ◌-◌, ◌≤◌}
use mathlib.Core.Path.{◌≡◌, refl, ap, sym, ◌∙◌}
use mathlib.Core.List.{List, [], ◌∷◌, ◌++◌, append_assoc}
use native.Mathlib.Omega.{arith}
use native.Mathlib.Nat.{add-zero}
use lib.ListN.{length, drop, length-append}
use lib.Seq.{drop-drop}
use Rattle.spec.specs.declared.Refusal.{Refusal}
use Rattle.spec.specs.Records.{Operand, operand_size, operands_size, operand_log, operands_log, operand_string, operands_strings}
use Rattle.spec.specs.Plain.{first_break, operand_break, operands_break}
use Rattle.spec.proofs.Breaks.{first_after, first_last, breaks_append}
use Rattle.spec.specs.Reader.{Reader, Read, got, refused, Parse, after, give}
use Rattle.spec.specs.Grammar.{Grammar}
use Rattle.spec.specs.Match.{read_one, read_each}
use Rattle.operand.specs.Log.{Laid}
use Rattle.operand.proofs.LogLaws.{laid_append, laid_nil}
use Rattle.decoder.specs.declared.Decoder.{Decoder}
use Rattle.decoder.specs.Answer.{reader_of}
use Rattle.used.specs.declared.used.Used.{Used}
use Rattle.used.specs.Parse.{Notes, notes_of, notes, note, FirstFits, Step, left_of, Went, Few, Held, Spotted, Accepted, Parses, prefix}
use Rattle.decoder.specs.Answer.{Answered}
use Rattle.std.specs.Prelude.{Err, Ok, Some}

-- RUNS OF OPERANDS

-- the words of one run after another
sizes_append : (a b : List Operand) → operands_size (a ++ b) ≡ operands_size a + operands_size b
unfolding operands_size
sizes_append [] b = omega arith
sizes_append (o ∷ a) b = omega (arith, sizes_append a b)

-- the strings of one run after another
pub strings_append : (a b : List Operand) → operands_strings (a ++ b) ≡ operands_strings a ++ operands_strings b
unfolding operands_strings
strings_append [] b = refl
strings_append (o ∷ a) b =
    ap (λ (x : List ℕ). operand_string o ++ x) (strings_append a b) ∙ sym (append_assoc (operand_string o) (operands_strings a) (operands_strings b))

-- the records of one run after another
pub log_append : (n : ℕ) (a b : List Operand) → operands_log n (a ++ b) ≡ operands_log n a ++ operands_log (n + length (operands_strings a)) b
unfolding operands_log operands_strings
log_append n [] b = ap (λ (m : ℕ). operands_log m b) (sym (add-zero n))
log_append n (o ∷ a) b =
    let q : n + length (operand_string o) + length (operands_strings a) ≡ n + length (operand_string o ++ operands_strings a) =
    omega (arith, length-append (operand_string o) (operands_strings a)) in
    ap (λ (x : List ℕ). operand_log n o ++ x) (log_append (n + length (operand_string o)) a b
    ∙ ap (λ (m : ℕ). operands_log (n + length (operand_string o)) a ++ operands_log m b) q)
    ∙ sym (append_assoc (operand_log n o) (operands_log (n + length (operand_string o)) a) _)

-- the notes of one run after another
pub notes_append : (a b : List Operand) (n : Notes) → notes (a ++ b) n ≡ notes b (notes a n)
unfolding notes
notes_append [] b n = refl
notes_append (o ∷ a) b n = notes_append a b (note o n)

-- OPERANDS BEFORE THOSE OF THE REST

pub prefix_prefix : (a b : List Operand) (x : Read (List Operand)) → prefix a (prefix b x) ≡ prefix (a ++ b) x
unfolding prefix
prefix_prefix a b (got os r) = ap (λ (y : List Operand). got y r) (sym (append_assoc a b os))
prefix_prefix a b (refused y r) = refl

pub prefix_nil : (x : Read (List Operand)) → prefix [] x ≡ x
unfolding prefix
prefix_nil (got os r) = refl
prefix_nil (refused y r) = refl

-- one operand before the rest
pub cons_prefix : (o : Operand) (x : Read (List Operand)) → after x (λ os. give (o ∷ os)) ≡ prefix (o ∷ []) x
unfolding prefix
cons_prefix o (got os r) = refl
cons_prefix o (refused y r) = refl

each_by : (g : Grammar) (ks : List ℕ) (m : Read Operand)
    → after m (λ o r. after (read_each g ks r) (λ os. give (o ∷ os))) ≡ after (after m (λ o. give (o ∷ []))) (λ os r. prefix os (read_each g ks r))
each_by g ks (got o r) = cons_prefix o (read_each g ks r)
each_by g ks (refused y r) = refl

-- one kind, then the others
pub each_cons : (g : Grammar) (k : ℕ) (ks : List ℕ) (r : Reader)
    → read_each g (k ∷ ks) r ≡ after (read_each g (k ∷ []) r) (λ os q. prefix os (read_each g ks q))
unfolding read_each
each_cons g k ks r = each_by g ks (read_one g k r)

-- HOW FAR

-- nowhere
pub went_nowhere : (d : Decoder) → Went d d 0
went_nowhere d = record { pace = refl; forth = omega arith }

-- one way after another
pub went_then : {d e f : Decoder} {m n : ℕ} → Went d e m → Went e f n → Went d f m
went_then v w = record { pace = w.pace ∙ v.pace; forth = omega (arith, v.forth, w.forth) }

-- as far or farther
pub went_less : {d e : Decoder} {m : ℕ} → Went d e m → Went d e 0
went_less w = record { pace = w.pace; forth = omega (arith, w.forth) }

-- words that a limit had
pub step_went : (s : List ℕ) (d e : Decoder) (n : ℕ) → Step s d e n → (m : ℕ) → d.limit ≡ Some m → Went d e (4 * n)
unfolding left_of
step_went s d e n t m q =
    let x = t.counted m q in
    record {
      pace = rw (q, x.1) (omega (arith, t.next, x.0));
      forth = omega (arith, t.next);
    }

-- what is in use stays few
pub step_few : (s : List ℕ) (d e : Decoder) (u v : Used) (n : ℕ) → Few s d u → Step s d e n → 1 ≤ n → v.operands ≡ u.operands + 1
    → v.log ≤ u.log + 9 → v.strings ≤ u.strings + 4 * n → v.base ≡ u.base → FirstFits v → Few s e v
step_few s d e u v n f t h p l q b k =
    record {
      short = f.short;
      inside = t.inside;
      left = f.left - n;
      limited = (t.counted f.left f.limited).1;
      operands = omega (arith, t.next, f.operands);
      strings = omega (arith, t.next, f.strings);
      log = omega (arith, t.next, f.log);
      fits = k;
    }

-- WHAT IS HELD

-- bytes that went in, at the place and the bytes that are meant
pub laid_as : {l₀ l bs cs : List ℕ} {at to : ℕ} → at ≡ to → bs ≡ cs → Laid l₀ at bs l → Laid l₀ to cs l
laid_as e f h = rw (← e, ← f) h

module _ {log₀ strs₀ log strs log₁ strs₁ : List ℕ} {c n m : Used} {a b : List Operand}
    (h : Held log₀ strs₀ log strs c n a) (g : Held log strs log₁ strs₁ n m b) where
  log_both : operands_log (c.base + c.strings) a ++ operands_log (n.base + n.strings) b ≡ operands_log (c.base + c.strings) (a ++ b)
  log_both =
      let e : n.base + n.strings ≡ c.base + c.strings + length (operands_strings a) = omega (arith, h.base, h.nstrings) in
      ap (λ (x : ℕ). operands_log (c.base + c.strings) a ++ operands_log x b) e ∙ sym (log_append (c.base + c.strings) a b)

  -- one run after another
  pub held_then : Held log₀ strs₀ log₁ strs₁ c m (a ++ b)
  held_then = record {
    rtype = g.rtype ∙ h.rtype;
    rid = g.rid ∙ h.rid;
    base = g.base ∙ h.base;
    nlog =
        let e : length (operands_log (c.base + c.strings) (a ++ b))
        ≡ length (operands_log (c.base + c.strings) a) + length (operands_log (n.base + n.strings) b) =
        ap length (sym log_both) ∙ length-append (operands_log (c.base + c.strings) a) (operands_log (n.base + n.strings) b) in
        omega (arith, e, h.nlog, g.nlog);
    nstrings =
        let e : length (operands_strings (a ++ b)) ≡ length (operands_strings a) + length (operands_strings b) =
        ap length (strings_append a b) ∙ length-append (operands_strings a) (operands_strings b) in
        omega (arith, e, h.nstrings, g.nstrings);
    noted = g.noted ∙ ap (notes b) h.noted ∙ sym (notes_append a b (notes_of c));
    log_laid = laid_as refl log_both (laid_append h.log_laid (laid_as h.nlog refl g.log_laid));
    strings_laid = laid_as refl (sym (strings_append a b)) (laid_append h.strings_laid (laid_as h.nstrings refl g.strings_laid));
  }

-- WHAT BREAKS

-- one operand, of so many words
pub spotted_one : (s : List ℕ) (d e : Decoder) (u n : Used) (o : Operand) → e.offset ≡ d.offset + 4 * operand_size o
    → n.breaks ≡ first_break u.breaks (operand_break d.offset o (drop d.offset s)) → Spotted s d e u n (o ∷ [])
unfolding operands_size operands_break
spotted_one s d e u n o p q = record { size = omega (arith, p); breaks = q ∙ ap (first_break u.breaks) (sym (first_last _)) }

-- nowhere
pub spotted_nothing : (s : List ℕ) (d : Decoder) (u : Used) → Spotted s d d u u []
unfolding operands_size operands_break
spotted_nothing s d u = record { size = omega arith; breaks = sym (first_last u.breaks) }

-- one run after another
pub spotted_then : {s : List ℕ} {d e f : Decoder} {u n m : Used} {a b : List Operand} → Spotted s d e u n a → Spotted s e f n m b
    → Spotted s d f u m (a ++ b)
spotted_then {s} {d} {e} {f} {u} {n} {m} {a} {b} p q =
    let k : ℕ = 4 * operands_size a in
    let at : e.offset ≡ d.offset + k = p.size in
    let rest : operands_break e.offset b (drop e.offset s) ≡ operands_break (d.offset + k) b (drop k (drop d.offset s)) =
    ap (λ (i : ℕ). operands_break i b (drop i s)) at
    ∙ ap (operands_break (d.offset + k) b) (sym (drop-drop k d.offset s)) in
    record {
      size = omega (arith, q.size, at, sizes_append a b);
      breaks =
          q.breaks ∙ ap (λ (i : ℕ). first_break i (operands_break e.offset b (drop e.offset s))) p.breaks
          ∙ first_after u.breaks (operands_break d.offset a (drop d.offset s)) _
          ∙ ap (λ (i : ℕ). first_break u.breaks (first_break (operands_break d.offset a (drop d.offset s)) i)) rest
          ∙ ap (first_break u.breaks) (sym (breaks_append d.offset a b (drop d.offset s)));
    }

-- no operands
pub held_nothing : (log strs : List ℕ) (c : Used) → Held log strs log strs c c []
unfolding operands_log operands_strings notes
held_nothing log strs c = record {
  rtype = refl;
  rid = refl;
  base = refl;
  nlog = omega arith;
  nstrings = omega arith;
  noted = refl;
  log_laid = laid_nil log c.log;
  strings_laid = laid_nil strs c.strings;
}

module _ {log₀ strs₀ log strs : List ℕ} {c n : Used} {a : List Operand} (h : Held log₀ strs₀ log strs c n a) where
  -- a read after what is held
  pub seq : (s : List ℕ) {d e₁ : Decoder} {i : ℕ} (j : ℕ) (log₁ strs₁ : List ℕ) (x z : Read (List Operand)) → Went d e₁ i
      → Spotted s d e₁ c n a → x ≡ prefix a z → (v : Answered Used) → Parses s e₁ j z log strs log₁ strs₁ n v → Parses s d i x log₀ strs₀ log₁ strs₁ c v
  unfolding Parses prefix
  seq s j log₁ strs₁ x z w b e (Ok (p, d)) r = record {
    operands = a ++ r.operands;
    read = e ∙ ap (prefix a) r.read;
    held = held_then h r.held;
    few = r.few;
    went = went_then w r.went;
    spotted = spotted_then b r.spotted;
  }
  seq s j log₁ strs₁ x z w b e (Err (y, d)) r = e ∙ ap (prefix a) r

-- ANSWERS

-- an answer that is good
pub good_told : {s : List ℕ} {d : Decoder} {m : ℕ} {x : Read (List Operand)} {l₀ t₀ l t : List ℕ} {c : Used} (v : Answered Used) (e : Decoder) (n : Used)
    → Parses s d m x l₀ t₀ l t c v → v ≡ Ok (n, e) → Accepted s d m x l₀ t₀ l t c e n
unfolding Parses
good_told v e n h q = rw q at h

-- the read that is meant
pub same_read : (s : List ℕ) (d : Decoder) (m : ℕ) (x z : Read (List Operand)) (l₀ t₀ l t : List ℕ) (c : Used) (v : Answered Used)
    → x ≡ z → Parses s d m z l₀ t₀ l t c v → Parses s d m x l₀ t₀ l t c v
same_read s d m x z l₀ t₀ l t c v e h = rw e h

-- a refusal
pub deny : (s : List ℕ) (d : Decoder) (m : ℕ) (x : Read (List Operand)) (l₀ t₀ l t : List ℕ) (c : Used) (v : Answered Used) (y : Refusal) (e : Decoder)
    → v ≡ Err (y, e) → x ≡ refused y (reader_of s e) → Parses s d m x l₀ t₀ l t c v
unfolding Parses
deny s d m x l₀ t₀ l t c v y e q h = rw q h

-- operands
pub accept : (s : List ℕ) (d : Decoder) (m : ℕ) (x : Read (List Operand)) (l t l₁ t₁ : List ℕ) (c n : Used) (e : Decoder) (os : List Operand)
    → x ≡ got os (reader_of s e) → Held l t l₁ t₁ c n os → Few s e n → Went d e m → Spotted s d e c n os → Parses s d m x l t l₁ t₁ c (Ok (n, e))
unfolding Parses
accept s d m x l t l₁ t₁ c n e os q h f w b = record { operands = os; read = q; held = h; few = f; went = w; spotted = b }

-- ONE READ, THEN ANOTHER

module _ (x y : Read (List Operand)) (f : Parse (List Operand)) (e : x ≡ after y (λ os q. prefix os (f q))) where
  -- the first is done
  pub first_done : (os : List Operand) (q : Reader) → y ≡ got os q → x ≡ prefix os (f q)
  first_done os q h = e ∙ ap (λ (z : Read (List Operand)). after z (λ ps u. prefix ps (f u))) h

  -- a refusal of the first is that of both
  pub first_bad : (s : List ℕ) (d : Decoder) (m : ℕ) (l₀ t₀ l t : List ℕ) (c : Used) (v : Answered Used) (z : Refusal) (g : Decoder)
      → Parses s d m y l₀ t₀ l t c v → v ≡ Err (z, g) → Parses s d m x l₀ t₀ l t c v
  unfolding Parses
  first_bad s d m l₀ t₀ l t c v z g h q =
      let b : y ≡ refused z (reader_of s g) = (rw q at h) in
      rw q (e ∙ ap (λ (w : Read (List Operand)). after w (λ ps u. prefix ps (f u))) b)
