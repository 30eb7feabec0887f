-- What one instruction comes to: the answer and the stores after it, by the reader of `spec`.
use Rattle.std.specs.Prelude.{ℕ, ◌+◌, ◌*◌, ◌≤◌, ◌≡◌, true, false, List, length}
use Rattle.spec.specs.declared.Refusal.{Refusal}
use Rattle.spec.specs.Records.{Instr, Entry, operands_log, operands_strings}
use Rattle.spec.specs.Reader.{Reader, Read, got, refused, refusal, reader_at}
use Rattle.spec.specs.Plain.{first_break, instr_break}
use Rattle.operand.specs.Log.{Laid}
use Rattle.grammar.specs.Find.{row_good}
use Rattle.decoder.specs.declared.Decoder.{Decoder}
use Rattle.decoder.specs.Answer.{limit_reached}
use Rattle.tracker.specs.Track.{FirstFit, literal_of, Literals}
use Rattle.used.specs.Parse.{first_of, second_of, slots_at}
use Rattle.untyped.specs.Body.{body_read}
use Rattle.used.specs.declared.used.Used.{Used}
use Rattle.used.specs.declared.used.Frame.{Frame}
use Rattle.parser.specs.declared.inst.Decoded.{Decoded}
use Rattle.std.specs.Prelude.{Err, None, Ok, Result}

-- an instruction was read: what is handed on says it, and its operands' records are what was added to what was in use and, where they fit,
-- to log and strings
pub record Handed (s : List ℕ) (at : ℕ) (x : Read Instr) (log₀ strs₀ log strs : List ℕ) (u : Used) (r : Decoded) : Type 0 where
  pub instr : Instr
  pub read : x ≡ got instr (reader_at s (at + 4 * r.words) None)
  pub inside : at + 4 * r.words ≤ length s
  pub offset : instr.offset ≡ at
  pub words : instr.words ≡ r.words
  pub moves : 1 ≤ r.words
  pub opcode : instr.opcode ≡ r.opcode
  pub rtype : instr.result_type ≡ r.rtype
  pub rid : instr.result_id ≡ r.rid
  pub operands : length instr.operands ≡ r.operands
  pub few : 4 * r.operands ≤ at + 4 * r.words
  pub literals : Literals instr.operands (literal_of r.first) (literal_of r.second)
  pub fits : FirstFit r.operands r.first r.second
  pub nlog : r.log ≡ u.log + length (operands_log (u.base + u.strings) instr.operands)
  pub nstrings : r.strings ≡ u.strings + length (operands_strings instr.operands)
  pub few_log : 4 * r.log ≤ 9 * (at + 4 * r.words)
  pub few_strings : u.base + r.strings ≤ at + 4 * r.words
  pub log_laid : Laid log₀ u.log (operands_log (u.base + u.strings) instr.operands) log
  pub strings_laid : Laid strs₀ u.strings (operands_strings instr.operands) strs
  pub breaks : r.breaks ≡ first_break u.breaks (instr_break s instr)

-- what is handed on of an instruction whose row was read
pub record Ends (f : Frame) (n : Used) (r : Decoded) : Type 0 where
  pub words : r.words ≡ f.words
  pub opcode : r.opcode ≡ f.opcode
  pub place_is : r.place ≡ f.place
  pub rtype : r.rtype ≡ n.rtype
  pub rid : r.rid ≡ n.rid
  pub operands : r.operands ≡ n.operands
  pub first : r.first ≡ first_of n
  pub second : r.second ≡ second_of n
  pub log : r.log ≡ n.log
  pub strings : r.strings ≡ n.strings
  pub breaks : r.breaks ≡ n.breaks

-- its answer: 7 where words are left over
unfoldable pub Ended : Frame → Decoder → Used → Result Decoded Refusal → Type 0
Ended f e n (Ok r) = (limit_reached e ≡ true) × Ends f n r
Ended f e n (Err y) = (limit_reached e ≡ false) × (y ≡ refusal 7 e.offset 0)

-- it was refused
pub record Declined (x : Read Instr) (y : Refusal) : Type 0 where
  pub rest : Reader
  pub read : x ≡ refused y rest

-- the answer to the read x of the instruction at a place, and the stores after it where it is good
unfoldable pub Decodes : List ℕ → ℕ → Read Instr → List ℕ → List ℕ → List ℕ → List ℕ → Used → Result Decoded Refusal → Type 0
Decodes s at x log₀ strs₀ log strs u (Ok r) = Handed s at x log₀ strs₀ log strs u r
Decodes s at x log₀ strs₀ log strs u (Err y) = Declined x y

-- the same, whatever the stores held before
pub record DecodesOver (s : List ℕ) (at : ℕ) (x : Read Instr) (log strs : List ℕ) (u : Used) (r : Result Decoded Refusal) : Type 0 where
  pub log₀ : List ℕ
  pub strs₀ : List ℕ
  pub decodes : Decodes s at x log₀ strs₀ log strs u r

-- the frame of an instruction at a place that was read
abbrev pub frame_of : ℕ → Decoded → Frame
frame_of at r = record { at = at; words = r.words; opcode = r.opcode; place = r.place }

-- an instruction that was read has this frame
unfoldable pub ShapeIs : Frame → Result Decoded Refusal → Type 0
ShapeIs f (Ok r) = frame_of f.at r ≡ f
ShapeIs f (Err y) = Unit

-- an instruction was read, by a row whose operands start at a place of the grammar
pub record ByRow (g : List ℕ) (types : List Entry) (s : List ℕ) (at : ℕ) (x : Read Instr) (r : Decoded) : Type 0 where
  pub inside : r.place ≤ length g
  pub operands : row_good r.opcode (slots_at g r.place) ≡ true
  pub body : x ≡ body_read g types s (frame_of at r)

-- the row of an instruction that was read
unfoldable pub RowIs : List ℕ → List Entry → List ℕ → ℕ → Read Instr → Result Decoded Refusal → Type 0
RowIs g types s at x (Ok r) = ByRow g types s at x r
RowIs g types s at x (Err y) = Unit
