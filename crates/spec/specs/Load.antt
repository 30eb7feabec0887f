-- Loading a module: the first refusals, the header, the instructions, the end, and the stores afterwards.
use Rattle.std.specs.Prelude.{ℕ, zero, suc, ◌+◌, ◌*◌, ◌/◌, ◌≤◌, ◌<◌, ◌≡◌, Bool, false, ◌&&◌, List, [], ◌∷◌, ◌++◌, ltb, eqb, length, drop, if◌then◌else◌}
use Rattle.std.proofs.lemmas.List.Edits.{sets}
use Rattle.spec.specs.declared.HeaderRead.{HeaderRead}
use Rattle.spec.specs.declared.State.{State}
use Rattle.spec.specs.declared.State.TheVariants.{Outside}
use Rattle.spec.specs.declared.Counts.{Counts}
use Rattle.spec.specs.declared.Loaded.{Loaded}
use Rattle.spec.specs.Base.{within, has, joined}
use Rattle.spec.specs.Records.{Instr, Placed, Entry, operands_log, operands_strings, record_size, instruction_store, log_from, string_store, entry_size, entry_words}
use Rattle.spec.specs.Reader.{Reader, reader, Read, got, refused, Parse, give, refuse, ◌>>=◌}
use Rattle.spec.specs.Header.{no_words, header_from}
use Rattle.spec.specs.Grammar.{Grammar, grammar_of, well_formed}
use Rattle.spec.specs.Layout.{layout_of, end_number}
use Rattle.spec.specs.Types.{track}
use Rattle.spec.specs.Match.{read_instr}
use Rattle.spec.specs.Plain.{module_break}
use Rattle.spec.specs.Layout.{Cell}
use Rattle.std.specs.Prelude.{Err, None, Ok}

-- COUNTS AND ROOM

-- counts by their four numbers
abbrev pub counts : ℕ → ℕ → ℕ → ℕ → Counts
counts i l s t = record { instructions = i; log = l; strings = s; types = t }

-- the room in stores of so many words, bytes, bytes and words
unfoldable pub room_of : ℕ → ℕ → ℕ → ℕ → Counts
room_of i l s t = counts (i / record_size) l s (t / entry_size)

-- "With W whole words after the header, W instruction records, 9W log bytes, 4W string bytes and W type entries always suffice."
unfoldable pub enough : ℕ → Counts
enough w = counts w (9 * w) (4 * w) w

-- "Room is refused exactly when the instruction's records go past a store": 25, 26, 27, 28 in that order, or 0
unfoldable pub room_fault : Counts → Counts → ℕ
room_fault room need =
    if ltb room.instructions need.instructions then 25
    else if ltb room.log need.log then 26
    else if ltb room.strings need.strings then 27
    else if ltb room.types need.types then 28
    else 0

-- room covers what is needed, in each store
pub record Covers (room need : Counts) : Type 0 where
  pub instructions : need.instructions ≤ room.instructions
  pub log : need.log ≤ room.log
  pub strings : need.strings ≤ room.strings
  pub types : need.types ≤ room.types

-- THE BOOK

-- what is kept so far: the instructions, the type entries, what they take in the stores, and the state of the layout
pub record Book : Type 0 where
  pub kept : List Placed
  pub types : List Entry
  pub used : Counts
  pub state : State

-- nothing kept, outside functions
abbrev pub empty_book : Book
empty_book = record { kept = []; types = []; used = counts 0 0 0 0; state = Outside }

-- what is taken after an instruction more, whose types are then these
abbrev pub used_after : Counts → Instr → List Entry → Counts
used_after c i types =
    counts (c.instructions + 1) (c.log + length (operands_log 0 i.operands))
    (c.strings + length (operands_strings i.operands)) (length types)

-- the book with an instruction more, its tag, and the state after it
abbrev pub entered : Book → Instr → ℕ → State → Book
entered b i tag s =
    record {
      kept = b.kept ++ (record { instr = i; tag = tag } ∷ []);
      types = track i b.types;
      used = used_after b.used i (track i b.types);
      state = s;
    }

-- WHAT A LOAD COMES TO

-- its answer, the instructions kept, and what is left in the stores: the instructions, today those kept, and the type entries
pub record Outcome : Type 0 where
  pub said : Loaded
  pub kept : List Placed
  pub left : List Placed
  pub types : List Entry

-- the same header words, instructions, type entries and counts, whatever else is said
pub record Same (x y : Outcome) : Type 0 where
  pub header : x.said.header ≡ y.said.header
  pub kept : x.kept ≡ y.kept
  pub types : x.types ≡ y.types
  pub counts : x.said.counts ≡ y.said.counts

-- is it refused for room
abbrev pub lacks_room : Loaded → Bool
lacks_room x = within 25 x.number 28

-- its offsets, index and counts each fit a word of 32 bits
pub record Small (x : Loaded) : Type 0 where
  pub offset : x.offset < 4294967296
  pub index : x.index < 4294967296
  pub instructions : x.counts.instructions < 4294967296
  pub log : x.counts.log < 4294967296
  pub strings : x.counts.strings < 4294967296
  pub types : x.counts.types < 4294967296
  pub breaks : x.breaks < 4294967296

-- the end of a load, at the instruction after those kept: number, place, value
abbrev pub stop : List ℕ → Book → ℕ → ℕ → ℕ → Outcome
stop h b n at v =
    record {
      said =
          record {
            number = n;
            offset = at;
            index = b.used.instructions + 1;
            value = v;
            header = h;
            counts = b.used;
            plain = false;
            breaks = 0;
          };
      kept = b.kept;
      left = b.kept;
      types = b.types;
    }

-- a load that has come to no instruction: index, header words and counts are 0
abbrev pub nothing : ℕ → ℕ → Outcome
nothing n at =
    record {
      said =
          record {
            number = n;
            offset = at;
            index = 0;
            value = 0;
            header = no_words;
            counts = counts 0 0 0 0;
            plain = false;
            breaks = 0;
          };
      kept = [];
      left = [];
      types = [];
    }

-- THE INSTRUCTIONS: each is decoded, placed in the layout and given room, or refused by the first of these

-- layout: the book with the instruction, or a refusal at it
abbrev pub placed : Book → Instr → Cell → Parse Book
placed b i (Ok (tag, s)) = give (entered b i tag s)
placed b i (Err n) = refuse n i.offset

-- room: the book as it is, or a refusal at its last instruction
abbrev pub roomed : Counts → Instr → Book → Parse Book
roomed room i b = let n = room_fault room b.used in if eqb n 0 then give b else refuse n i.offset

-- one instruction more in the book: decoding, layout, room
abbrev pub take_instr : Grammar → Counts → Book → Parse Book
take_instr g room b = do
  i ← read_instr g b.types
  c ← placed b i (layout_of i.opcode b.state)
  roomed room i c

-- go on with the next book, or stop at the refusal
abbrev pub on_book : List ℕ → Book → Read Book → (Book → Reader → Outcome) → Outcome
on_book h b (got c r) more = more c r
on_book h b (refused x r) more = stop h b x.number x.place x.value

-- "At the end (0, 16, or 21 there) the place is the whole words' length and count + 1."
abbrev pub finish : List ℕ → Book → Reader → Outcome
finish h b r = stop h b (end_number b.state) r.at 0

-- the instructions from a reader on. Each takes a word or more, so where n is at least the whole words left, none is left when n is
-- zero
unfoldable pub load_from : Grammar → Counts → List ℕ → ℕ → Book → Reader → Outcome
load_from g room h zero b r = finish h b r
load_from g room h (suc n) b r =
    if has 4 r.rest then on_book h b (take_instr g room b r) (load_from g room h n) else finish h b r

-- THE WHOLE

-- "an accepted load says whether the module is plain and, if not, the lowest byte offset that breaks it .. Otherwise the offset is 0,
-- and a refused load says no."
abbrev pub with_plain : List ℕ → Outcome → Outcome
with_plain s x =
    let breaks = module_break s x.kept in
    record {
      said =
          record {
            number = x.said.number;
            offset = x.said.offset;
            index = x.said.index;
            value = x.said.value;
            header = x.said.header;
            counts = x.said.counts;
            plain = eqb x.said.number 0 && eqb breaks 0;
            breaks = if eqb x.said.number 0 then breaks else 0;
          };
      kept = x.kept;
      left = x.left;
      types = x.types;
    }

-- the header's refusal, or the instructions after it
abbrev pub after_header : Grammar → Counts → List ℕ → HeaderRead → Outcome
after_header g room s h =
    if eqb h.refusal.number 0
    then with_plain s (load_from g room h.words (length s / 4) empty_book (reader 20 None (drop 20 s)))
    else nothing h.refusal.number h.refusal.place

-- a load with the rows and enumerants of a grammar
unfoldable pub load_with : Grammar → Counts → List ℕ → Outcome
load_with g room s = if ltb 67108864 (length s) then nothing 31 0 else after_header g room s (header_from s)

-- a load with the bytes of a grammar: "24, 31 and the header come first, in that order."
unfoldable pub load : List ℕ → Counts → List ℕ → Outcome
load grammar room s = if well_formed grammar then load_with (grammar_of grammar) room s else nothing 24 0

-- THE STORES

-- "a module's [records] are all four [stores] up to their counts"
pub record Stores : Type 0 where
  pub instructions : List ℕ
  pub log : List ℕ
  pub strings : List ℕ
  pub types : List ℕ

-- four stores
abbrev pub lent : List ℕ → List ℕ → List ℕ → List ℕ → Stores
lent i l s t = record { instructions = i; log = l; strings = s; types = t }

-- the records of what is left
unfoldable pub stores_of : Outcome → Stores
stores_of x =
    record {
      instructions = instruction_store x.left;
      log = log_from 0 x.left;
      strings = string_store x.left;
      types = joined entry_words x.types;
    }

-- a store after a load: the records from its start on, and past them what was there
unfoldable pub laid_over : List ℕ → List ℕ → List ℕ
laid_over store bs = sets store 0 bs

-- the room in stores
unfoldable pub room_in : Stores → Counts
room_in t = room_of (length t.instructions) (length t.log) (length t.strings) (length t.types)

-- stores after records are laid over each
unfoldable pub laid_on : Stores → Stores → Stores
laid_on t u =
    record {
      instructions = laid_over t.instructions u.instructions;
      log = laid_over t.log u.log;
      strings = laid_over t.strings u.strings;
      types = laid_over t.types u.types;
    }
