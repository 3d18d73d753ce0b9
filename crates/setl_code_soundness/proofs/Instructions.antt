-- Each instruction of sound code moves from a ready state to a ready state, or ends and isn't stuck.
use Rattle.std.proofs.Common.{◌≡◌, ◌<◌, ◌≤◌, ℕ, suc, ◌+◌, ◌-◌, Bool, true, false, List, [], ◌∷◌, inl, inr, length, Option, Some, None, refl, subst, arith}
use Rattle.std.specs.List.{Contains}
use Rattle.setl_value.specs.Datum.{Datum, bool, atom, tuple, part_list}
use Rattle.setl_operators_table.specs.Outcome.{Outcome}
use Rattle.setl_operators_table.specs.declared.Operator.{Operator}
use Rattle.setl_operators_table.specs.Operators.{op_of}
use Rattle.setl_text.specs.Texts.{print_line}
use Rattle.setl_text.specs.Reading.{Reading, Denotes, AtEnd, NotForm, TooWide, TooDeep, read_denotation}
use Rattle.setl_model_runs.specs.Variable.{Variable}
use Rattle.setl_model_runs.specs.VariableLaws.{variable_itself}
use Rattle.setl_model_runs.specs.Events.{Printed}
use Rattle.setl_program.specs.declared.kinds.Collection.{Collection}
use Rattle.setl_program.specs.declared.kinds.Connective.{Connective}
use Rattle.setl_program.specs.declared.kinds.Connective.TheVariants.{And, Or, Implies}
use Rattle.setl_program.specs.declared.kinds.Taking.{Taking}
use Rattle.setl_program.specs.Program.{Begin}
use Rattle.setl_model.specs.World.{World}
use Rattle.setl_model.specs.Core.{One, Two, Selected}
use Rattle.setl_model.specs.Iterations.{Started, Starts, Refuses, items_of}
use Rattle.setl_model.specs.Places.{with_part_at_all, part_at_all, combined, Taken, TakesOut, IsEmpty, CannotTake, take_out}
use Rattle.setl_code.specs.Code.{Bracket, Alteration, Putting, Combining, TakingOut, Instr, Push, PushAtom, PushEof, Load, StoreIn, Operate, Alter, Decides, TestBool, Unless, Jump, DropTop, DupTop, PartsOf, BeginOver, NextOr, BeginOf, AddBelow, LeaveAll, PayRound, PrintTop, ReadOne, Code}
use Rattle.setl_code.specs.Piece.{Is}
use Rattle.setl_code.specs.CodeCore.{Operand, Result, Iterator, PairIterator, Collecting, CodeCore}
use Rattle.setl_code.specs.Machine.{go_to, next, do_instr, store_whole, take_from, take_apart, begin_over, next_or, iterator, go_added, Added, Adds, Refused, Nowhere, added, alter, selected_by, push_read, decides}
use Rattle.setl_code.specs.Shapes.{AResult, ACollection, AnIterator, APairIterator, Shape, outs, after, if_collection, alter_outs, next_outs, iterator_kind, without_results, without_levels, results, successors, free_successors}
use Rattle.setl_code.specs.Sound.{Table, all_said, is_fine, is_written, height_at, AllLower}
use Rattle.setl_code.specs.Ready.{HaveShape, Ready}
use Rattle.setl_code_soundness.proofs.Laying.{parts}
use Rattle.setl_code_soundness.proofs.Operands.{led, after_some, shape_on, topped, popping, leaving, parted, IsAdded, adding, AllOf, items_alike}
use Rattle.setl_code_soundness.proofs.Moving.{FineMove, in_world, outcomes, turns, branches, not_gone, not_taken, Goes, lands, stores}

pub first : {x : ℕ} (xs : List ℕ) → Contains (x ∷ xs) x
first xs = (0, let less : 0 < suc (length xs) = omega arith in less, refl)

second : {x y : ℕ} (xs : List ℕ) → Contains (x ∷ y ∷ xs) y
second xs = (1, let less : 1 < suc (suc (length xs)) = omega arith in less, refl)

collected_there : (u s w : Shape) → if_collection u (Some s) ≡ Some w → w ≡ s
collected_there (ACollection ∷ u) s w h = cc
collected_there [] s w h = cc
collected_there (AResult ∷ u) s w h = cc
collected_there (AnIterator ∷ u) s w h = cc
collected_there (APairIterator ∷ u) s w h = cc

module _ (c : Code) (declared : List Variable) (k : CodeCore) (r : Ready c declared k) (line : ℕ) where
  -- ---- what is known of the step

  abbrev pub T : Table
  T = r.now.sound.table

  abbrev pub H : ℕ → ℕ
  H at = height_at r.now.sound.heights at

  abbrev pub Here : Instr → Type 0
  Here i = Is r.now.body.steps k.now.at line i

  abbrev pub fine : (i : Instr) → Here i → is_fine T (outs c.bodies i (suc k.now.at) r.now.shape) ≡ true
  fine i is = r.now.sound.fine k.now.at line i r.now.shape is r.now.reached

  abbrev pub lower : (i : Instr) → Here i → AllLower r.now.sound.heights (H k.now.at) (free_successors i (suc k.now.at))
  lower i is = r.now.sound.falls k.now.at line i is

  pub here : HaveShape k.now.operands r.now.shape
  here = shape_on k.now.operands r.now.below r.now.shape r.now.operands r.now.fits

  pub same_turns : k.world.left ≤ k.world.left
  same_turns = omega arith

  -- behind a step without a turn, in a world with no more turns
  behind : (i : Instr) (is : Here i) (w : World) (to : ℕ) → w.left ≤ k.world.left → H to < H k.now.at → Goes c declared k r line i is w to
  behind i is w to few less = inr (few, less)

  -- the next step without a turn
  on : (i : Instr) (is : Here i) (s : Shape) (xs : List Operand) (w : World) → all_said T ((suc k.now.at, s) ∷ []) ≡ true → HaveShape xs s → Contains (successors i (suc k.now.at)) (suc k.now.at) → ((y : Variable) → is_written i y ≡ false) → w.left ≤ k.world.left → H (suc k.now.at) < H k.now.at → FineMove c declared k r (next xs (in_world w k))
  on i is s xs w said shape within kept few less = lands c declared k r line i is [] [] (suc k.now.at) s xs w (parts _ true said).0 shape within kept (inr (few, less))

  -- ---- results are pushed

  pub push_fine : (v : Option Datum) → Here (Push v) → FineMove c declared k r (do_instr c line (Push v) k)
  push_fine v is = on (Push v) is (AResult ∷ r.now.shape) (Result v ∷ k.now.operands) k.world (fine (Push v) is) (tt, here) (first []) (λ y. refl) same_turns (lower (Push v) is).0

  pub eof_fine : Here PushEof → FineMove c declared k r (do_instr c line PushEof k)
  eof_fine is = on PushEof is (AResult ∷ r.now.shape) (Result (Some (bool k.world.eof)) ∷ k.now.operands) k.world (fine PushEof is) (tt, here) (first []) (λ y. refl) same_turns (lower PushEof is).0

  pub atom_fine : Here PushAtom → FineMove c declared k r (do_instr c line PushAtom k)
  atom_fine is =
      turns c declared k r _ (λ m less.
      lands c declared k r line PushAtom is [] [] (suc k.now.at) (AResult ∷ r.now.shape) (Result (Some (atom k.world.atom)) ∷ k.now.operands) (record k.world { left = m; atom = k.world.atom + 1 }) (parts _ true (fine PushAtom is)).0 (tt, here) (first []) (λ y. refl) (inl less))

  pub load_fine : (x : Variable) → Here (Load x) → FineMove c declared k r (do_instr c line (Load x) k)
  load_fine x is =
      not_gone c declared k r x _ (not_taken c declared k r line (Load x) is x (variable_itself x)) (λ v.
      on (Load x) is (AResult ∷ r.now.shape) (Result v ∷ k.now.operands) k.world (fine (Load x) is) (tt, here) (first []) (λ y. refl) same_turns (lower (Load x) is).0)

  pub begin_of_fine : (o : Collection) → Here (BeginOf o) → FineMove c declared k r (do_instr c line (BeginOf o) k)
  begin_of_fine o is = on (BeginOf o) is (ACollection ∷ r.now.shape) (Collecting o [] ∷ k.now.operands) k.world (fine (BeginOf o) is) (tt, here) (first []) (λ y. refl) same_turns (lower (BeginOf o) is).0

  reading_fine : (d : Reading) → Here ReadOne → FineMove c declared k r (push_read d line k)
  reading_fine (Denotes v rest) is = on ReadOne is (AResult ∷ r.now.shape) (Result v ∷ k.now.operands) (record k.world { input = rest }) (fine ReadOne is) (tt, here) (first []) (λ y. refl) same_turns (lower ReadOne is).0
  reading_fine AtEnd is = on ReadOne is (AResult ∷ r.now.shape) (Result None ∷ k.now.operands) (record k.world { input = []; eof = true }) (fine ReadOne is) (tt, here) (first []) (λ y. refl) same_turns (lower ReadOne is).0
  reading_fine NotForm is = tt
  reading_fine TooWide is = tt
  reading_fine TooDeep is = tt

  pub read_fine : Here ReadOne → FineMove c declared k r (do_instr c line ReadOne k)
  read_fine is = reading_fine (read_denotation k.world.input) is

  -- ---- results are popped

  pub store_fine : (x : Variable) → Here (StoreIn x) → FineMove c declared k r (do_instr c line (StoreIn x) k)
  store_fine x is =
      let t = led T (without_results 1 r.now.shape) (λ u. (suc k.now.at, u) ∷ []) (fine (StoreIn x) is) in
      let top = topped k.now.operands r.now.shape t.0 here t.1 in
      rw (top.is) (stores c declared k r line (StoreIn x) is x top.value t.0 top.rest k.world (parts _ true t.2).0 top.shape (first []) (λ y other. other) (inr (same_turns, (lower (StoreIn x) is).0)))

  pub drop_fine : Here DropTop → FineMove c declared k r (do_instr c line DropTop k)
  drop_fine is =
      let t = led T (without_results 1 r.now.shape) (λ u. (suc k.now.at, u) ∷ []) (fine DropTop is) in
      let top = topped k.now.operands r.now.shape t.0 here t.1 in
      rw (top.is) (on DropTop is t.0 top.rest k.world t.2 top.shape (first []) (λ y. refl) same_turns (lower DropTop is).0)

  pub dup_fine : Here DupTop → FineMove c declared k r (do_instr c line DupTop k)
  dup_fine is =
      let t = led T (without_results 1 r.now.shape) (λ u. (suc k.now.at, AResult ∷ AResult ∷ u) ∷ []) (fine DupTop is) in
      let top = topped k.now.operands r.now.shape t.0 here t.1 in
      rw (top.is) (on DupTop is (AResult ∷ AResult ∷ t.0) (Result top.value ∷ Result top.value ∷ top.rest) k.world t.2 (tt, (tt, top.shape)) (first []) (λ y. refl) same_turns (lower DupTop is).0)

  pub operate_fine : (o : Operator) (n : ℕ) → Here (Operate o n) → FineMove c declared k r (do_instr c line (Operate o n) k)
  operate_fine o n is =
      let t = led T (without_results n r.now.shape) (λ u. (suc k.now.at, AResult ∷ u) ∷ []) (fine (Operate o n) is) in
      let pops = popping n [] k.now.operands r.now.shape t.0 here t.1 in
      rw (pops.is) (outcomes c declared k r (op_of o pops.values k.world.left) line k.world _ (λ v m.
      (let few : k.world.left - m ≤ k.world.left = omega arith in
      on (Operate o n) is (AResult ∷ t.0) (Result v ∷ pops.rest) (record k.world { left = k.world.left - m }) t.2 (tt, pops.shape) (first []) (λ y. refl) few (lower (Operate o n) is).0)))

  pub print_fine : (n : ℕ) → Here (PrintTop n) → FineMove c declared k r (do_instr c line (PrintTop n) k)
  print_fine n is =
      let t = led T (without_results n r.now.shape) (λ u. (suc k.now.at, u) ∷ []) (fine (PrintTop n) is) in
      let pops = popping n [] k.now.operands r.now.shape t.0 here t.1 in
      rw (pops.is) (lands c declared k r line (PrintTop n) is (print_line pops.values) (Printed (print_line pops.values) ∷ []) (suc k.now.at) t.0 pops.rest k.world (parts _ true t.2).0 pops.shape (first []) (λ y. refl) (inr (same_turns, (lower (PrintTop n) is).0)))

  apart_fine : (n : ℕ) (v : Option Datum) (t : Shape) (xs : List Operand) → Here (PartsOf n) → all_said T ((suc k.now.at, results n t) ∷ []) ≡ true → HaveShape xs t → FineMove c declared k r (take_apart n v line xs k)
  apart_fine n (Some (tuple ps)) t xs is said shape =
      on (PartsOf n) is (results n t) _ k.world said (parted n (part_list ps) xs t shape) (first []) (λ y. refl) same_turns (lower (PartsOf n) is).0
  apart_fine n None t xs is said shape = tt
  apart_fine n (Some d) t xs is said shape = tt

  pub parts_fine : (n : ℕ) → Here (PartsOf n) → FineMove c declared k r (do_instr c line (PartsOf n) k)
  parts_fine n is =
      let t = led T (without_results 1 r.now.shape) (λ u. (suc k.now.at, results n u) ∷ []) (fine (PartsOf n) is) in
      let top = topped k.now.operands r.now.shape t.0 here t.1 in
      rw (top.is) (apart_fine n top.value t.0 top.rest is t.2 top.shape)

  -- ---- tests and jumps

  pub jump_fine : (to : ℕ) → Here (Jump to) → FineMove c declared k r (do_instr c line (Jump to) k)
  jump_fine to is = lands c declared k r line (Jump to) is [] [] to r.now.shape k.now.operands k.world (parts _ true (fine (Jump to) is)).0 here (first []) (λ y. refl) (inr (same_turns, (lower (Jump to) is).0))

  pub test_fine : Here TestBool → FineMove c declared k r (do_instr c line TestBool k)
  test_fine is =
      let t = led T (without_results 1 r.now.shape) (λ u. (suc k.now.at, AResult ∷ u) ∷ []) (fine TestBool is) in
      let top = topped k.now.operands r.now.shape t.0 here t.1 in
      let goes : FineMove c declared k r (next (Result top.value ∷ top.rest) k) = on TestBool is (AResult ∷ t.0) (Result top.value ∷ top.rest) k.world t.2 (tt, top.shape) (first []) (λ y. refl) same_turns (lower TestBool is).0 in
      rw (top.is) (branches c declared k r top.value line _ _ goes goes)

  pub unless_fine : (to : ℕ) → Here (Unless to) → FineMove c declared k r (do_instr c line (Unless to) k)
  unless_fine to is =
      let t = led T (without_results 1 r.now.shape) (λ u. (suc k.now.at, u) ∷ (to, u) ∷ []) (fine (Unless to) is) in
      let top = topped k.now.operands r.now.shape t.0 here t.1 in
      let said = parts _ (all_said T ((to, t.0) ∷ [])) t.2 in
      let less = lower (Unless to) is in
      rw (top.is) (branches c declared k r top.value line _ _
      (lands c declared k r line (Unless to) is [] [] (suc k.now.at) t.0 top.rest k.world said.0 top.shape (first (to ∷ [])) (λ y. refl) (inr (same_turns, less.0)))
      (lands c declared k r line (Unless to) is [] [] to t.0 top.rest k.world (parts _ true said.1).0 top.shape (second []) (λ y. refl) (inr (same_turns, less.1.0))))

  deciding_fine : (o : Connective) (to : ℕ) (v : Option Datum) (t : Shape) (xs : List Operand) (is : Here (Decides o to)) → all_said T ((suc k.now.at, t) ∷ (to, AResult ∷ t) ∷ []) ≡ true → HaveShape xs t → FineMove c declared k r (decides o to v line xs k)
  deciding_fine o to v t xs is all shape = go o goes answers
    where
      goes : FineMove c declared k r (next xs k)
      goes = lands c declared k r line (Decides o to) is [] [] (suc k.now.at) t xs k.world (parts _ (all_said T ((to, AResult ∷ t) ∷ [])) all).0 shape (first (to ∷ [])) (λ y. refl) (inr (same_turns, (lower (Decides o to) is).0))

      answers : (b : Bool) → FineMove c declared k r (go_to to (Result (Some (bool b)) ∷ xs) k)
      answers b = lands c declared k r line (Decides o to) is [] [] to (AResult ∷ t) (Result (Some (bool b)) ∷ xs) k.world (parts _ true (parts _ (all_said T ((to, AResult ∷ t) ∷ [])) all).1).0 (tt, shape) (second []) (λ y. refl) (inr (same_turns, (lower (Decides o to) is).1.0))

      go : (p : Connective) → FineMove c declared k r (next xs k) → ((b : Bool) → FineMove c declared k r (go_to to (Result (Some (bool b)) ∷ xs) k)) → FineMove c declared k r (decides p to v line xs k)
      go And one two = branches c declared k r v line _ _ one (two false)
      go Or one two = branches c declared k r v line _ _ (two true) one
      go Implies one two = branches c declared k r v line _ _ one (two true)

  pub decides_fine : (o : Connective) (to : ℕ) → Here (Decides o to) → FineMove c declared k r (do_instr c line (Decides o to) k)
  decides_fine o to is =
      let t = led T (without_results 1 r.now.shape) (λ u. (suc k.now.at, u) ∷ (to, AResult ∷ u) ∷ []) (fine (Decides o to) is) in
      let top = topped k.now.operands r.now.shape t.0 here t.1 in
      rw (top.is) (deciding_fine o to top.value t.0 top.rest is t.2 top.shape)

  -- ---- updates

  -- a new whole is stored
  whole_fine : (i : Instr) (is : Here i) (o : Outcome) (x : Variable) (s : Shape) (xs : List Operand) (w : World) → all_said T ((suc k.now.at, s) ∷ []) ≡ true → HaveShape xs s → Contains (successors i (suc k.now.at)) (suc k.now.at) → ((y : Variable) → is_written i y ≡ false) → w.left ≤ k.world.left → H (suc k.now.at) < H k.now.at → FineMove c declared k r (store_whole o line x xs (in_world w k))
  whole_fine i is o x s xs w said shape within kept few less =
      outcomes c declared k r o line w _ (λ v m.
      (let fewer : w.left - m ≤ k.world.left = omega arith in
      stores c declared k r line i is x v s xs (record w { left = w.left - m }) (parts _ true said).0 shape within (λ y other. kept y) (inr (fewer, less))))

  taken_fine : (q : Taken) (t : Taking) (x : Variable) (bs : List Bracket) (whole : Option Datum) (chosen : List Selected) (s : Shape) (xs : List Operand) (w : World) → Here (Alter (TakingOut t) x bs) → all_said T ((suc k.now.at, AResult ∷ s) ∷ []) ≡ true → HaveShape xs s → w.left ≤ k.world.left → H (suc k.now.at) < H k.now.at → FineMove c declared k r (take_from q line x whole chosen xs (in_world w k))
  taken_fine (TakesOut small v) t x bs whole chosen s xs w is said shape few less =
      whole_fine (Alter (TakingOut t) x bs) is (with_part_at_all chosen whole (Some small) w.left) x (AResult ∷ s) (Result v ∷ xs) w said (tt, shape) (first []) (λ y. refl) few less
  taken_fine IsEmpty t x bs whole chosen s xs w is said shape few less = on (Alter (TakingOut t) x bs) is (AResult ∷ s) (Result None ∷ xs) w said (tt, shape) (first []) (λ y. refl) few less
  taken_fine (CannotTake fault) t x bs whole chosen s xs w is said shape few less = tt

  altering_fine : (a : Alteration) (x : Variable) (bs : List Bracket) (whole : Option Datum) (chosen : List Selected) (t : Shape) (xs : List Operand) → Here (Alter a x bs) → is_fine T (alter_outs a (suc k.now.at) (Some t)) ≡ true → HaveShape xs t → H (suc k.now.at) < H k.now.at → FineMove c declared k r (alter a line x whole chosen xs k)
  altering_fine Putting x bs whole chosen t xs is said shape less =
      let u = led T (without_results 1 t) (λ s. (suc k.now.at, s) ∷ []) said in
      let top = topped xs t u.0 shape u.1 in
      rw (top.is) (whole_fine (Alter Putting x bs) is (with_part_at_all chosen whole top.value k.world.left) x u.0 top.rest k.world u.2 top.shape (first []) (λ y. refl) same_turns less)
  altering_fine (Combining o) x bs whole chosen t xs is said shape less =
      let u = led T (without_results 1 t) (λ s. (suc k.now.at, s) ∷ []) said in
      let top = topped xs t u.0 shape u.1 in
      rw (top.is) (whole_fine (Alter (Combining o) x bs) is (combined chosen whole (λ part now. op_of o (part ∷ top.value ∷ []) now) k.world.left) x u.0 top.rest k.world u.2 top.shape (first []) (λ y. refl) same_turns less)
  altering_fine (TakingOut q) x bs whole chosen t xs is said shape less =
      outcomes c declared k r (part_at_all chosen whole k.world.left) line k.world _ (λ part m.
      (let few : k.world.left - m ≤ k.world.left = omega arith in
      taken_fine (take_out q part) q x bs whole chosen t xs (record k.world { left = k.world.left - m }) is said shape few less))

  -- an update is fine where its selectors are there
  selected_fine : (a : Alteration) (o : Option Shape) → is_fine T (alter_outs a (suc k.now.at) o) ≡ true → (t : Shape) × (o ≡ Some t) × (is_fine T (alter_outs a (suc k.now.at) (Some t)) ≡ true)
  selected_fine Putting None h = cc
  selected_fine (Combining o) None h = cc
  selected_fine (TakingOut q) None h = cc
  selected_fine a (Some t) h = (t, refl, h)

  pub alter_fine : (a : Alteration) (x : Variable) (bs : List Bracket) → Here (Alter a x bs) → FineMove c declared k r (do_instr c line (Alter a x bs) k)
  alter_fine a x bs is =
      let t = selected_fine a (without_results (length bs) r.now.shape) (fine (Alter a x bs) is) in
      let pops = popping (length bs) [] k.now.operands r.now.shape t.0 here t.1 in
      rw (pops.is) (not_gone c declared k r x _ (not_taken c declared k r line (Alter a x bs) is x (variable_itself x)) (λ whole.
      altering_fine a x bs whole (selected_by bs pops.values) t.0 pops.rest is t.2 pops.shape (lower (Alter a x bs) is).0))

  -- ---- iterators and collections

  begun_fine : (q : Started) (b : Begin) (n : ℕ) (t : Shape) (xs : List Operand) → AllOf b q → Here (BeginOver b n) → all_said T ((suc k.now.at, iterator_kind b ∷ t) ∷ []) ≡ true → HaveShape xs t → FineMove c declared k r (begin_over q b line xs k)
  begun_fine (Starts items) b n t xs alike is said shape = on (BeginOver b n) is (iterator_kind b ∷ t) (iterator b items ∷ xs) k.world said (alike, shape) (first []) (λ y. refl) same_turns (lower (BeginOver b n) is).0
  begun_fine (Refuses fault) b n t xs alike is said shape = tt

  pub begin_fine : (b : Begin) (n : ℕ) → Here (BeginOver b n) → FineMove c declared k r (do_instr c line (BeginOver b n) k)
  begin_fine b n is =
      let t = led T (without_results n r.now.shape) (λ u. (suc k.now.at, iterator_kind b ∷ u) ∷ []) (fine (BeginOver b n) is) in
      let pops = popping n [] k.now.operands r.now.shape t.0 here t.1 in
      rw (pops.is) (begun_fine (items_of b pops.values) b n t.0 pops.rest (items_alike b pops.values) is t.2 pops.shape)

  nexting_fine : (to : ℕ) (xs : List Operand) (s : Shape) → Here (NextOr to) → HaveShape xs s → is_fine T (next_outs (suc k.now.at) to s) ≡ true → FineMove c declared k r (next_or to xs k)
  nexting_fine to (Iterator [] ∷ xs) (AnIterator ∷ s) is shape said =
      let two = parts _ (all_said T ((to, s) ∷ [])) said in
      lands c declared k r line (NextOr to) is [] [] to s xs k.world (parts _ true two.1).0 shape.1 (second []) (λ y. refl) (inr (same_turns, (lower (NextOr to) is).0))
  nexting_fine to (Iterator (One v ∷ items) ∷ xs) (AnIterator ∷ s) is shape said =
      let two = parts _ (all_said T ((to, s) ∷ [])) said in
      turns c declared k r _ (λ m less.
      lands c declared k r line (NextOr to) is [] [] (suc k.now.at) (AResult ∷ AnIterator ∷ s) (Result v ∷ Iterator items ∷ xs) (record k.world { left = m }) two.0 (tt, shape) (first (to ∷ [])) (λ y. refl) (inl less))
  nexting_fine to (PairIterator [] ∷ xs) (APairIterator ∷ s) is shape said =
      let two = parts _ (all_said T ((to, s) ∷ [])) said in
      lands c declared k r line (NextOr to) is [] [] to s xs k.world (parts _ true two.1).0 shape.1 (second []) (λ y. refl) (inr (same_turns, (lower (NextOr to) is).0))
  nexting_fine to (PairIterator (Two v w ∷ items) ∷ xs) (APairIterator ∷ s) is shape said =
      let two = parts _ (all_said T ((to, s) ∷ [])) said in
      turns c declared k r _ (λ m less.
      lands c declared k r line (NextOr to) is [] [] (suc k.now.at) (AResult ∷ AResult ∷ APairIterator ∷ s) (Result v ∷ Result w ∷ PairIterator items ∷ xs) (record k.world { left = m }) two.0 (tt, (tt, shape)) (first (to ∷ [])) (λ y. refl) (inl less))
  nexting_fine to xs [] is shape said = cc
  nexting_fine to xs (AResult ∷ s) is shape said = cc
  nexting_fine to xs (ACollection ∷ s) is shape said = cc
  nexting_fine to [] (l ∷ s) is shape said = absurd shape
  nexting_fine to (o ∷ xs) (l ∷ s) is shape said = absurd shape.0

  pub next_fine : (to : ℕ) → Here (NextOr to) → FineMove c declared k r (do_instr c line (NextOr to) k)
  next_fine to is = nexting_fine to k.now.operands r.now.shape is here (fine (NextOr to) is)

  added_fine : (n : ℕ) (a : Added) (t : Shape) → IsAdded t a → Here (AddBelow n) → all_said T ((suc k.now.at, t) ∷ []) ≡ true → FineMove c declared k r (go_added a line k)
  added_fine n (Adds xs) t shape is said = on (AddBelow n) is t xs k.world said shape (first []) (λ y. refl) same_turns (lower (AddBelow n) is).0
  added_fine n (Refused fault) t shape is said = tt
  added_fine n Nowhere t shape is said = absurd shape

  pub add_fine : (n : ℕ) → Here (AddBelow n) → FineMove c declared k r (do_instr c line (AddBelow n) k)
  add_fine n is =
      let t = led T (after (without_results 1 r.now.shape) (λ t. after (without_levels n t) (λ u. if_collection u (Some t)))) (λ u. (suc k.now.at, u) ∷ []) (fine (AddBelow n) is) in
      let s = after_some (without_results 1 r.now.shape) (λ t. after (without_levels n t) (λ u. if_collection u (Some t))) t.0 t.1 in
      let u = after_some (without_levels n s.0) (λ u. if_collection u (Some s.0)) t.0 s.2 in
      let top = topped k.now.operands r.now.shape s.0 here s.1 in
      let same : t.0 ≡ s.0 = collected_there u.0 s.0 t.0 u.2 in
      rw (top.is) (added_fine n (added n top.value top.rest) s.0 (adding n top.value top.rest s.0 u.0 t.0 top.shape u.1 u.2) is (subst (λ w. all_said T ((suc k.now.at, w) ∷ []) ≡ true) same t.2))

  pub leave_fine : (n : ℕ) → Here (LeaveAll n) → FineMove c declared k r (do_instr c line (LeaveAll n) k)
  leave_fine n is =
      let t = led T (without_levels n r.now.shape) (λ u. (suc k.now.at, u) ∷ []) (fine (LeaveAll n) is) in
      let left = leaving n k.now.operands r.now.shape t.0 here t.1 in
      rw (left.1) (on (LeaveAll n) is t.0 left.0 k.world t.2 left.2 (first []) (λ y. refl) same_turns (lower (LeaveAll n) is).0)

  pub round_fine : Here PayRound → FineMove c declared k r (do_instr c line PayRound k)
  round_fine is =
      turns c declared k r _ (λ m less.
      lands c declared k r line PayRound is [] [] (suc k.now.at) r.now.shape k.now.operands (record k.world { left = m }) (parts _ true (fine PayRound is)).0 here (first []) (λ y. refl) (inl less))
