-- Reading a segment (document 01, "Reading a segment" and "Numbers given when work is declined"), and the number of steps that reading its
-- options reports (document 02, P8).
use Rattle.std.specs.Prelude.{ℕ, ◌+◌, ◌-◌, ◌*◌, ◌/◌, ◌%◌, ◌^◌, ◌<◌, Bool, cond, ◌||◌, List, [], ◌∷◌, eqb, leb, ltb, drop, get_or, length, take, Result, Ok, Err}
use Rattle.std.proofs.Math.Option.{Option, none, some, Option-elim, map}
use Rattle.std.proofs.Common.{arith}
use Rattle.laws.specs.Lists.{filter}
use Rattle.octets.specs.Octets.{number_at}
use Rattle.segment.specs.Grammar.{Step, padding_rule}
use Rattle.segment.specs.Options.{Fault, Found, fault_in, nothing, option_in, options_of, skipped_in, stands_in, up_to_fault}
use Rattle.segment.specs.declared.Flags.{Flags}
use Rattle.segment.specs.declared.Options.{Options}
use Rattle.segment.specs.declared.Reading.{Reading}
use Rattle.segment.specs.declared.Refusal.{Refusal}
use Rattle.segment.specs.declared.Segment.{Segment}

-- an answer in document 01's terms: 0 and what was read, or the refusal's number, with E4, E5 and E6 the place in the segment of the kind
-- octet at fault
pub record Answer (A : Type 0) : Type 0 where
  pub number : ℕ
  pub place : Option ℕ
  pub fields : Option A

abbrev pub read_as : {A : Type 0} → A → Answer A
read_as a = record { number = 0; place = none; fields = some a }

-- a refusal's number alone
abbrev pub refused : {A : Type 0} → ℕ → Answer A
refused n = record { number = n; place = none; fields = none }

abbrev pub refused_at : {A : Type 0} → Fault → Answer A
refused_at fault = record { number = fault.number; place = some fault.place; fields = none }

-- what was read, as part of more; a refusal stays
abbrev pub with_fields : {A B : Type 0} → (A → B) → Answer A → Answer B
with_fields f a = record { number = a.number; place = a.place; fields = map f a.fields }

-- document 01's number of each refusal
abbrev pub number_of : Refusal → ℕ
number_of Refusal.TooShort = 1
number_of Refusal.TooLong = 2
number_of Refusal.BadDataOffset = 3
number_of (Refusal.BrokenOption place) = 4
number_of (Refusal.WrongOptionLength place) = 5
number_of (Refusal.RepeatedOption place) = 6

-- none of them is 0
pub number_positive : (why : Refusal) → 0 < number_of why
number_positive Refusal.TooShort = omega arith
number_positive Refusal.TooLong = omega arith
number_positive Refusal.BadDataOffset = omega arith
number_positive (Refusal.BrokenOption place) = omega arith
number_positive (Refusal.WrongOptionLength place) = omega arith
number_positive (Refusal.RepeatedOption place) = omega arith

-- the place of the kind octet at fault, which three of them hold
abbrev pub fault_place : Refusal → Option ℕ
fault_place Refusal.TooShort = none
fault_place Refusal.TooLong = none
fault_place Refusal.BadDataOffset = none
fault_place (Refusal.BrokenOption place) = some place
fault_place (Refusal.WrongOptionLength place) = some place
fault_place (Refusal.RepeatedOption place) = some place

-- what reading reports: its answer, and the number of steps
pub record Report : Type 0 where
  pub answer : Answer Segment
  pub steps : ℕ

-- the number, the place and the fields of what the code answers
abbrev pub shown_answer : Result Segment Refusal → Answer Segment
shown_answer (Ok segment) = read_as segment
shown_answer (Err why) = record { number = number_of why; place = fault_place why; fields = none }

-- the same with its number of steps
abbrev pub shown : Reading → Report
shown reading = record { answer = shown_answer reading.outcome; steps = reading.steps }

-- the options of the steps, or the first fault
unfoldable pub options_read : List Step → Answer Options
options_read steps = Option-elim (fault_in [] steps) (read_as (options_of steps)) refused_at

-- the high half of octet 12, in 4-octet units
abbrev pub data_offset : List ℕ → ℕ
data_offset s = get_or s 12 0 / 16

-- the octets from 20 to 4 x offset
abbrev pub option_octets : List ℕ → List ℕ
option_octets s = drop 20 (take (4 * data_offset s) s)

-- the steps of its options
abbrev pub steps_of : List ℕ → List Step
steps_of s = padding_rule 20 (option_octets s)

-- whether bit n is set
abbrev pub bit : ℕ → ℕ → Bool
bit n octet = eqb (octet / 2 ^ n % 2) 1

-- from bit 7: CWR ECE URG ACK PSH RST SYN FIN
abbrev pub flags_of : ℕ → Flags
flags_of octet = record {
  cwr = bit 7 octet;
  ece = bit 6 octet;
  urg = bit 5 octet;
  ack = bit 4 octet;
  psh = bit 3 octet;
  rst = bit 2 octet;
  syn = bit 1 octet;
  fin = bit 0 octet;
}

-- payload octets, plus 1 for SYN, plus 1 for FIN
abbrev pub len_of : ℕ → Flags → ℕ
len_of payload flags = payload + cond flags.syn 1 0 + cond flags.fin 1 0

-- the fields of a segment whose header ends at `end`, with what its options say and how many were skipped
unfoldable pub segment_of : List ℕ → ℕ → ℕ → Options → Segment
segment_of s end skipped options = record {
  source = number_at 2 s 0;
  destination = number_at 2 s 2;
  seq = record { 0 = number_at 4 s 4 };
  ack = record { 0 = number_at 4 s 8 };
  flags = flags_of (get_or s 13 0);
  window = number_at 2 s 14;
  urgent = number_at 2 s 18;
  options = options;
  skipped = skipped;
  payload = record { start = end; length = length s - end };
  len = len_of (length s - end) (flags_of (get_or s 13 0));
}

-- E1, E2, E3 in this order, then the options from left to right
unfoldable pub reading : List ℕ → Answer Segment
reading s =
    let by_options = with_fields (segment_of s (4 * data_offset s) (skipped_in (steps_of s))) (options_read (steps_of s)) in
    cond (ltb (length s) 20) (refused 1)
    (cond (ltb 65535 (length s)) (refused 2)
    (cond (ltb (data_offset s) 5 || ltb (length s) (4 * data_offset s)) (refused 3)
    by_options))

-- the steps that count: none with E1 to E3, otherwise those up to and with the first fault
unfoldable pub counted_steps : List ℕ → List Step
counted_steps s = cond (stands_in (reading s).number (1 ∷ 2 ∷ 3 ∷ [])) [] (up_to_fault [] (steps_of s))

-- how many they are
abbrev pub steps_taken : List ℕ → ℕ
steps_taken s = length (counted_steps s)

-- what is reported of a segment
abbrev pub reported : List ℕ → Report
reported s = record { answer = reading s; steps = steps_taken s }

-- the kinds of a list that can match: kinds 0 and 1 match nothing
abbrev pub matching : List ℕ → List ℕ
matching kinds = filter (leb 2) kinds

-- the first option whose kind stands in the list, in a segment that is not refused
unfoldable pub found_option : List ℕ → List ℕ → Found
found_option s kinds = cond (eqb (reading s).number 0) (option_in (matching kinds) (steps_of s)) nothing
