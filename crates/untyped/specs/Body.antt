-- An instruction by its frame: what is read of it after its first word.
use Rattle.std.specs.Prelude.{ℕ, ◌+◌, ◌-◌, ◌≤◌, ◌≡◌, true, List, length}
use Rattle.std.specs.Prelude.{Some}
use Rattle.spec.specs.Grammar.{grammar_of}
use Rattle.spec.specs.Records.{Instr, Entry}
use Rattle.spec.specs.Reader.{Read, reader_at}
use Rattle.spec.specs.Match.{Seen, nothing_seen, read_row, read_body}
use Rattle.grammar.specs.Find.{row_good}
use Rattle.decoder.specs.declared.Decoder.{Decoder}
use Rattle.decoder.specs.Answer.{decoder, reader_of}
use Rattle.used.specs.declared.used.Frame.{Frame}
use Rattle.used.specs.Parse.{left_of, slots_at}
use Rattle.std.specs.Prelude.{None}

-- an instruction whose first word stands in the module, and a row's operands in the grammar
pub record Framed (s g : List ℕ) (f : Frame) : Type 0 where
  pub short : length s ≤ 67108864
  pub inside : f.at + 4 ≤ length s
  pub moves : 1 ≤ f.words
  pub place_in : f.place ≤ length g
  pub operands : row_good f.opcode (slots_at g f.place) ≡ true

-- the decoder before its operands
abbrev pub start_of : Frame → Decoder
start_of f = decoder (f.at + 4) (Some (f.words - 1))

-- the walk from there of the row whose operands start at a place of the grammar
unfoldable pub row_read : List ℕ → List Entry → List ℕ → Decoder → ℕ → Read Seen
row_read g types s d p = read_row (grammar_of g) types (left_of d.limit) (slots_at g p) nothing_seen (reader_of s d)

-- the instruction
unfoldable pub body_read : List ℕ → List Entry → List ℕ → Frame → Read Instr
body_read g types s f =
    read_body (grammar_of g) types f.at f.words f.opcode (Some (slots_at g f.place)) (reader_at s (f.at + 4) None)
