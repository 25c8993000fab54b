-- The table of verdicts: number n is given exactly when row n's condition holds and no earlier one does, and 0 when none holds; so a segment
-- that is taken makes each condition false. Beside a row's number stands that row's answer. Assumes nothing.
use mathlib.Core.Bool.{Bool, true, false, cond, not, ◌&&◌, ◌||◌, and-false, false≢true}
use mathlib.Core.List.{List, [], ◌∷◌, ◌++◌, map}
use mathlib.Core.Option.{Option, none, some}
use mathlib.Core.Path.{◌≡◌, refl, sym, ap, ◌∙◌}
use Prim.Native.Nat.{ℕ, ◌≤◌, ◌<◌}
use lib.Dec.{eqb, ltb}
use borrow.Author.Tests.{eq-eqb, eqb-false, eqb-true, le-ltb, lt-ltb, ne_eqb, not-true}
use Rattle.laws.specs.Lists.{Each}
use Rattle.laws.specs.Lists.Each.{none, more}
use Rattle.laws.proofs.Choices.{both_true, either, neither}
use Rattle.segment.specs.Options.{stands_in}
use Rattle.segment.specs.declared.Segment.{Segment}
use Rattle.connection.specs.declared.Connection.{Connection}
use Rattle.connection.specs.Numbers.{Action, Decision, refuse, take}
use Rattle.connection.specs.Verdict.{Row, decided, first_holds, is_given, none_holds, rows}
use Rattle.connection.specs.Arriving.{Arrival, arriving_read, is_take, judged, not_taken, refusing, settled, taken_by, unchanged}
use Rattle.connection.specs.Calls.{Incoming, arrived, fields_of}
use Rattle.connection.proofs.Incoming.{arrived_by_fields}

abbrev numbers : List Row → List ℕ
numbers table = map (λ r. r.number) table

-- no number is 0, none stands there twice, and no row takes
abbrev fits : List Row → Bool
fits [] = true
fits (r ∷ rs) = not (eqb r.number 0 || (stands_in r.number (numbers rs) || is_take r.action)) && fits rs

first_fits : (r : Row) (rs : List Row) → fits (r ∷ rs) ≡ true
    → (eqb r.number 0 ≡ false) × (stands_in r.number (numbers rs) ≡ false) × (is_take r.action ≡ false) × (fits rs ≡ true)
first_fits r rs t =
    let tests = both_true _ (fits rs) t in
    let number = neither (eqb r.number 0) (stands_in r.number (numbers rs) || is_take r.action) (not-true _ tests.0) in
    let others = neither (stands_in r.number (numbers rs)) (is_take r.action) number.1 in
    (number.0, others.0, others.1, tests.1)

abbrev decision : Row → Decision
decision r = record { number = r.number; action = r.action }

-- a number that no row has is not given by one
absent : (n : ℕ) (rs : List Row) → stands_in n (numbers rs) ≡ false → first_holds n rs ≡ false
unfolding stands_in
absent n [] e = refl
absent n (r ∷ rs) e =
    let tests = neither (eqb n r.number) (stands_in n (numbers rs)) e in
    let other : eqb r.number n ≡ false = ne_eqb r.number n (λ q. eqb-false n r.number tests.0 (sym q)) in
    rw (other, absent n rs tests.1) (and-false (not r.holds))

none_given : (table : List Row) → fits table ≡ true → eqb (decided table).number 0 ≡ none_holds table
none_given [] d = refl
none_given (r ∷ rs) d = pick r.holds (none_given rs (first_fits r rs d).3)
  where
    pick : (h : Bool) → eqb (decided rs).number 0 ≡ none_holds rs
        → eqb (cond h (decision r) (decided rs)).number 0 ≡ not h && none_holds rs
    pick true later = (first_fits r rs d).0
    pick false later = later

number_given : (n : ℕ) → eqb n 0 ≡ false → (table : List Row) → fits table ≡ true → eqb (decided table).number n ≡ first_holds n table
number_given n filled [] d = ne_eqb 0 n (λ q. eqb-false n 0 filled (sym q))
number_given n filled (r ∷ rs) d = pick r.holds (eqb r.number n) refl (number_given n filled rs (first_fits r rs d).3)
  where
    pick : (h t : Bool) → eqb r.number n ≡ t → eqb (decided rs).number n ≡ first_holds n rs
        → eqb (cond h (decision r) (decided rs)).number n ≡ cond t h (not h && first_holds n rs)
    pick true true e later = e
    pick true false e later = e
    pick false true e later =
        later ∙ absent n rs (ap (λ x. stands_in x (numbers rs)) (sym (eqb-true r.number n e)) ∙ (first_fits r rs d).1)
    pick false false e later = later

given : (n : ℕ) (table : List Row) → fits table ≡ true → eqb (decided table).number n ≡ is_given n table
given n table d = pick (eqb n 0) refl
  where
    pick : (z : Bool) → eqb n 0 ≡ z → eqb (decided table).number n ≡ cond z (none_holds table) (first_holds n table)
    pick true z = ap (λ x. eqb (decided table).number x) (eqb-true n 0 z) ∙ none_given table d
    pick false z = number_given n z table d

-- the answer of the row with a number, whatever the row's place; take where no row has it
abbrev pub action_of : ℕ → List Row → Action
action_of n [] = take
action_of n (r ∷ rs) = cond (eqb r.number n) r.action (action_of n rs)

action_given : (table : List Row) → fits table ≡ true → (decided table).action ≡ action_of (decided table).number table
action_given [] d = refl
action_given (r ∷ rs) d = pick r.holds (action_given rs fit.3)
  where
    fit : (eqb r.number 0 ≡ false) × (stands_in r.number (numbers rs) ≡ false) × (is_take r.action ≡ false) × (fits rs ≡ true)
    fit = first_fits r rs d

    other : eqb r.number (decided rs).number ≡ false
    other =
        let later : eqb (decided rs).number r.number ≡ false = number_given r.number fit.0 rs fit.3 ∙ absent r.number rs fit.1 in
        ne_eqb r.number (decided rs).number (λ q. eqb-false (decided rs).number r.number later (sym q))

    here : (n : ℕ) (t : Bool) → eqb r.number n ≡ t → action_of n (r ∷ rs) ≡ cond t r.action (action_of n rs)
    here n t e = ap (λ b. cond b r.action (action_of n rs)) e

    pick : (h : Bool) → (decided rs).action ≡ action_of (decided rs).number rs
        → (cond h (decision r) (decided rs)).action ≡ action_of (cond h (decision r) (decided rs)).number (r ∷ rs)
    pick true later = sym (here r.number true (eq-eqb r.number r.number refl))
    pick false later = later ∙ sym (here (decided rs).number false other)

-- only where no row holds is a segment taken
taken_last : (table : List Row) → fits table ≡ true → is_take (decided table).action ≡ true → decided table ≡ record { number = 0; action = take }
taken_last [] d t = refl
taken_last (r ∷ rs) d t = pick r.holds t (taken_last rs (first_fits r rs d).3)
  where
    pick : (h : Bool) → is_take (cond h (decision r) (decided rs)).action ≡ true
        → (is_take (decided rs).action ≡ true → decided rs ≡ record { number = 0; action = take })
        → cond h (decision r) (decided rs) ≡ record { number = 0; action = take }
    pick true t later = absurd (false≢true (sym (first_fits r rs d).2 ∙ t))
    pick false t later = later t

-- the condition of the row with a number, whatever the row's place
abbrev pub condition : ℕ → List Row → Bool
condition n [] = false
condition n (r ∷ rs) = cond (eqb r.number n) r.holds (condition n rs)

none_decided : (table : List Row) → none_holds table ≡ true → decided table ≡ record { number = 0; action = take }
none_decided [] clear = refl
none_decided (r ∷ rs) clear =
    let tests = both_true (not r.holds) (none_holds rs) clear in
    rw (not-true r.holds tests.0) (none_decided rs tests.1)

-- a row whose condition holds decides, where that of no row before it does
pub first_decides : {before : List Row} → Each (λ (b : Row). b.holds ≡ false) before → (r : Row) → r.holds ≡ true → (later : List Row)
    → decided (before ++ (r ∷ later)) ≡ record { number = r.number; action = r.action }
first_decides none r holds later = rw holds
first_decides (more fails rest) r holds later = rw fails (first_decides rest r holds later)

none_true : (n : ℕ) (table : List Row) → none_holds table ≡ true → condition n table ≡ false
none_true n [] clear = refl
none_true n (r ∷ rs) clear =
    let tests = both_true (not r.holds) (none_holds rs) clear in
    either (λ b. b ≡ false) (eqb r.number n) r.holds (condition n rs) (λ _. not-true _ tests.0) (λ _. none_true n rs tests.1)

module _ (k : Connection) (clock : ℕ) (s : Segment) where
  table_fits : fits (rows k clock s) ≡ true
  unfolding rows stands_in
  table_fits = refl

  -- a segment that is taken makes each condition false
  pub take_clears : is_take (decided (rows k clock s)).action ≡ true → (n : ℕ) → condition n (rows k clock s) ≡ false
  take_clears takes n =
      none_true n (rows k clock s)
      (sym (none_given (rows k clock s) table_fits)
      ∙ ap (λ (d : Decision). eqb d.number 0) (taken_last (rows k clock s) table_fits takes))

  -- a segment that has been read is taken, and then each condition is false, or leaves the record
  pub arriving_cases : (P : Arrival → Type 0) → (((n : ℕ) → condition n (rows k clock s) ≡ false) → P (taken_by k clock s))
      → ((d : Decision) (place skipped : Option ℕ) → is_take d.action ≡ false → P (unchanged k d place skipped)) → P (arriving_read k clock s)
  unfolding arriving_read judged settled
  arriving_cases P takes leaves =
      either P (ltb clock k.timestamping.since) _ _ (λ _. leaves (record { number = 8; action = refuse }) none none refl)
      (λ _.
      either P (is_take (decided (rows k clock s)).action) _ _ (λ t. takes (take_clears t)) (λ f. leaves (decided (rows k clock s)) none (some s.skipped) f))

  -- it is taken where none holds
  pub taken_if : k.timestamping.since ≤ clock → none_holds (rows k clock s) ≡ true → arriving_read k clock s ≡ taken_by k clock s
  unfolding arriving_read judged settled
  taken_if timely clear = rw (le-ltb clock k.timestamping.since timely, none_decided (rows k clock s) clear)

  -- the answer carries what the table decided
  pub judged_decision : (judged k clock s).decision ≡ decided (rows k clock s)
  unfolding judged settled taken_by
  judged_decision = pick (is_take (decided (rows k clock s)).action) refl
    where
      pick : (t : Bool) → is_take (decided (rows k clock s)).action ≡ t
          → (cond t (taken_by k clock s) (not_taken k s (decided (rows k clock s)))).decision ≡ decided (rows k clock s)
      pick true t = sym (taken_last (rows k clock s) table_fits t)
      pick false t = refl

  module _ (i : Incoming) (is : fields_of i ≡ some s) where
    pub number_of_row : k.timestamping.since ≤ clock → (n : ℕ) → eqb (arrived k clock i).decision.number n ≡ is_given n (rows k clock s)
    unfolding arriving_read
    number_of_row timely n =
        rw (arrived_by_fields k clock i s is, le-ltb clock k.timestamping.since timely, judged_decision) (given n (rows k clock s) table_fits)

    -- beside a number stands the answer of its row
    pub action_of_row : k.timestamping.since ≤ clock
        → (arrived k clock i).decision.action ≡ action_of (arrived k clock i).decision.number (rows k clock s)
    unfolding arriving_read
    action_of_row timely =
        let is_judged : arrived k clock i ≡ judged k clock s =
        arrived_by_fields k clock i s is ∙ ap (λ b. cond b (refusing k 8 none) (judged k clock s)) (le-ltb clock k.timestamping.since timely) in
        let decides : (arrived k clock i).decision ≡ decided (rows k clock s) = ap (λ (a : Arrival). a.decision) is_judged ∙ judged_decision in
        ap (λ (d : Decision). d.action) decides ∙ action_given (rows k clock s) table_fits
        ∙ ap (λ (d : Decision). action_of d.number (rows k clock s)) (sym decides)

    -- E8: clock below the time at which TS.Recent was last set
    pub late_refused : clock < k.timestamping.since → (arrived k clock i).decision ≡ record { number = 8; action = refuse }
    unfolding arriving_read
    late_refused late = rw (arrived_by_fields k clock i s is, lt-ltb clock k.timestamping.since late)
