-- What the test of images tells.
use Rattle.std.proofs.Common.{◌≡◌, ◌<◌, ◌≤◌, ◌+◌, ◌-◌, ◌*◌, ◌^◌, ℕ, zero, suc, Bool, true, false, List, [], ◌∷◌, map, length, nat_eq, Option, Some, None, refl, ap, subst, arith, eq-eqb, eqb-true}
use Rattle.std.specs.Prelude.{ℤ, pos, negsuc, slice_get, not, ◌&&◌, ◌↔◌, IsTrue, nat_lt, option_map, unwrap_or}
use Rattle.std.specs.List.{AllByRecursion, list_all}
use Rattle.std.proofs.lemmas.Bool.{ltb-true, lt-ltb}
use Rattle.setl_operators_table.specs.declared.Operator.{Operator}
use Rattle.setl_operators_table.specs.declared.Operator.TheVariants as o
use Rattle.setl_operators_table.specs.Operators.{operand_count}
use Rattle.setl_tree.specs.Texts.{IsTextByte}
use Rattle.setl_tree.specs.declared.tree.Param.{Param}
use Rattle.setl_tree.specs.declared.tree.Passing.{Passing}
use Rattle.setl_tree.specs.declared.tree.Passing.TheVariants.{Rd, Wr, Rw}
use Rattle.setl_program.specs.Updating.{is_updating}
use Rattle.setl_program.specs.declared.kinds.Collection.TheVariants.{OfSet, OfTuple}
use Rattle.setl_program.specs.declared.kinds.Connective.TheVariants.{And, Or, Implies}
use Rattle.setl_program.specs.declared.kinds.Source.TheVariants.{Values, Between, SetSteps, TupleSteps}
use Rattle.setl_program.specs.declared.kinds.Taking.TheVariants.{TakeLeast, TakeFirst, TakeLast}
use Rattle.setl_modes.specs.declared.mode.NamedMode.{NamedMode}
use Rattle.setl_modes.specs.declared.mode.ModeTable.{ModeTable}
use Rattle.setl_modes.specs.declared.mode.Form.{Form}
use Rattle.setl_modes.specs.declared.mode.Form.TheVariants.{Plain, Local, Remote, Sparse}
use Rattle.setl_modes.specs.Modes.{Mode, Elements, Sets, Tuples, SingleMaps, MultiMaps, mode_of}
use Rattle.setl_code.specs.declared.code.OwnName.{OwnName}
use Rattle.setl_code.specs.declared.code.OwnName.TheVariants as own
use Rattle.setl_code.specs.declared.code.Slot.{Slot}
use Rattle.setl_code.specs.declared.code.Slot.TheVariants as slot
use Rattle.setl_code.specs.declared.code.Bracket.{Bracket}
use Rattle.setl_code.specs.declared.code.Bracket.TheVariants as bracket
use Rattle.setl_code.specs.declared.code.Alteration.{Alteration}
use Rattle.setl_code.specs.declared.code.Alteration.TheVariants as alteration
use Rattle.setl_code.specs.declared.code.Begin.{Begin}
use Rattle.setl_code.specs.declared.code.Begin.TheVariants as begin
use Rattle.setl_code.specs.declared.code.Instr.{Instr}
use Rattle.setl_code.specs.declared.code.Instr.TheVariants as i
use Rattle.setl_code.specs.declared.code.Step.{Step}
use Rattle.setl_code.specs.declared.code.Body.{Body}
use Rattle.setl_image_codec.specs.Codec.{Codec, never, pair}
use Rattle.setl_image_codec.specs.Numbers.{listed, number}
use Rattle.setl_image_codec.specs.Texts.{all_are, counted, is_name, is_text_byte, name, text}
use Rattle.setl_image_format.specs.ImageCodec as format
use Rattle.setl_image_format.specs.ImageCodec.{passing_place}
use Rattle.setl_image_format.specs.ModeCodec.{form_place, inner_of, mode, mode_of_parts}
use Rattle.setl_image_format.specs.OwnNames.{own_name, own_text}
use Rattle.setl_image_format.specs.Steps as steps
use Rattle.setl_image_format.specs.Table.{operators, operator_tag}
use Rattle.setl_image.specs.declared.image.Image.{Image}
use Rattle.setl_image.specs.Views.{image_of, named_of, table_of}
use Rattle.setl_image_closed.specs.Closed.{can_alter}
use Rattle.setl_image_modes.specs.SoundModes.{BasesAreTold, is_of_base, modes_of}
use Rattle.setl_image_spelled.specs.Spelled.{is_number, is_list, name_fits, param_fits, own_name_fits, mode_fits, named_fits, section_fits, slot_fits, operate_fits, is_whole, text_fits, instr_fits, step_fits, body_fits, image_fits}

-- ---- tests and what they tell

abbrev Tells : Bool → Type 0 → Type 0
Tells b P = IsTrue b ↔ P

yes : {P : Type 0} → P → Tells true P
yes p = (λ h. p, λ q. refl)

no : {P : Type 0} → (P → ⊥) → Tells false P
no nope = (λ h. cc, λ q. absurd (nope q))

itself : (a : Bool) → Tells a (a ≡ true)
itself a = (λ h. h, λ h. h)

both : (a b : Bool) {P Q : Type 0} → Tells a P → Tells b Q → Tells (a && b) (P × Q)
both true b s t = (λ h. (s.0 refl, t.0 h), λ q. t.1 q.1)
both false b s t = (λ h. cc, λ q. s.1 q.0)

three : (a b c : Bool) {P Q R : Type 0} → Tells a P → Tells b Q → Tells c R → Tells (a && b && c) (P × Q × R)
three a b c s t u =
    let all = both (a && b) c (both a b s t) u in
    (λ h. (let is = all.0 h in (is.0.0, is.0.1, is.1)), λ q. all.1 ((q.0, q.1), q.2))

-- beside what always holds
beside : {a : Bool} {P Q : Type 0} → P → Tells a Q → Tells a (P × Q)
beside p t = (λ h. (p, t.0 h), λ q. t.1 q.1)

before : {a : Bool} {P Q : Type 0} → Tells a P → Q → Tells a (P × Q)
before t q = (λ h. (t.0 h, q), λ r. t.1 r.0)

-- ---- numbers and lists

less_tells : (n most : ℕ) → Tells (nat_lt n most) (n < most)
less_tells n most = (λ h. ltb-true n most h, λ h. lt-ltb n most h)

number_tells : (n : ℕ) → Tells (is_number n) (number.Fits n)
number_tells n = less_tells n (2 ^ 32)

all_tell : {A B : Type 0} (f : A → B) (test : A → Bool) (P : B → Type 0) → ((x : A) → Tells (test x) (P (f x))) → (xs : List A) → Tells (list_all test xs) (AllByRecursion P (map f xs))
all_tell f test P each [] = yes tt
all_tell f test P each (x ∷ xs) = both (test x) (list_all test xs) (each x) (all_tell f test P each xs)

same_length : {A B : Type 0} (f : A → B) (xs : List A) → length xs ≡ length (map f xs)
same_length f [] = refl
same_length f (x ∷ xs) = ap suc (same_length f xs)

mapped_tells : {A B : Type 0} (f : A → B) (test : A → Bool) (c : Codec B) → ((x : A) → Tells (test x) (c.Fits (f x))) → (xs : List A) → Tells (is_list test xs) ((listed c).Fits (map f xs))
mapped_tells f test c each xs =
    beside tt (both (is_number (length xs)) (list_all test xs) (subst (λ n. Tells (is_number (length xs)) (number.Fits n)) (same_length f xs) (number_tells (length xs))) (beside refl (all_tell f test c.Fits each xs)))

same_map : {A : Type 0} (xs : List A) → map (λ x. x) xs ≡ xs
same_map [] = refl
same_map (x ∷ xs) = ap (λ ys. x ∷ ys) (same_map xs)

list_tells : {A : Type 0} (test : A → Bool) (c : Codec A) → ((x : A) → Tells (test x) (c.Fits x)) → (xs : List A) → Tells (is_list test xs) ((listed c).Fits xs)
list_tells test c each xs = subst (λ ys. Tells (is_list test xs) ((listed c).Fits ys)) (same_map xs) (mapped_tells (λ x. x) test c each xs)

-- ---- names

counted_tells : (x : List ℕ) → Tells (is_number (length x)) (counted.Fits x)
counted_tells x = beside tt (before (number_tells (length x)) refl)

name_tells : (x : List ℕ) → Tells (name_fits x) (name.Fits x)
name_tells x = both (is_name x) (is_number (length x)) (itself (is_name x)) (counted_tells x)

passing_there : (p : Passing) → slice_get (Rd ∷ Wr ∷ Rw ∷ []) (passing_place p) ≡ Some p
passing_there Rd = refl
passing_there Wr = refl
passing_there Rw = refl

param_tells : (p : Param) → Tells (param_fits p) (format.param.Fits p)
param_tells p = beside refl (beside (passing_there p.passing) (both (name_fits p.name) (is_number p.line) (name_tells p.name) (number_tells p.line)))

from_one : (k : ℕ) → Tells (nat_lt 0 k) (1 ≤ k)
from_one k = (λ h. (let less = ltb-true 0 k h in omega arith), λ h. lt-ltb 0 k (omega arith))

own_name_tells : (x : OwnName) → Tells (own_name_fits x) (own_name.Fits x)
own_name_tells (own.Body x) = name_tells x
own_name_tells (own.Former k x) =
    both (is_name x && nat_lt 0 k && is_number k) (is_number (length (own_text (own.Former k x))))
    (three (is_name x) (nat_lt 0 k) (is_number k) (itself (is_name x)) (from_one k) (number_tells k))
    (counted_tells (own_text (own.Former k x)))

-- ---- modes

form_there : (f : Form) → slice_get (Plain ∷ Local ∷ Remote ∷ Sparse ∷ []) (form_place f) ≡ Some f
form_there Plain = refl
form_there Local = refl
form_there Remote = refl
form_there Sparse = refl

-- what is told of the modes inside, where so many may still stand inside each other
inner_tells : (bases : List Mode) (test : ℕ → Bool) (P : Codec Mode → Type 0) → (P never → ⊥) → ((n : ℕ) → Tells (test n) (P (mode_of_parts bases (inner_of n bases)))) → (left : ℕ) → Tells (nat_lt 0 left && test (left - 1)) (P (inner_of left bases))
inner_tells bases test P none each zero = no none
inner_tells bases test P none each (suc left) =
    let some : nat_lt 0 (suc left) ≡ true = lt-ltb 0 (suc left) (omega arith) in
    let less : suc left - 1 ≡ left = omega arith in
    rw (some, less) (each left)

module _ (told : BasesAreTold) where
  base_tells : (k : ℕ) (base : Option Mode) (m : Mode) → Tells (is_of_base base m) (option_map (Elements k) base ≡ Some (Elements k m))
  base_tells k None m = no (λ q. cc)
  base_tells k (Some n) m = (
    λ h. ap (option_map (Elements k)) ((told (Some n) m).0 h),
    λ q. (told (Some n) m).1 (let same : n ≡ m = cc in ap Some same),
  )

  mode_tells : (bases : List Mode) (m : Mode) (left : ℕ) → Tells (mode_fits left bases m) ((mode_of_parts bases (inner_of left bases)).Fits m)
  mode_tells bases (Elements k m) left = both (is_of_base (slice_get bases k) m) (is_number k) (base_tells k (slice_get bases k) m) (number_tells k)
  mode_tells bases (Sets f m) left = beside refl (beside (form_there f) (inner_tells bases (λ n. mode_fits n bases m) (λ c. c.Fits m) (λ e. e) (mode_tells bases m) left))
  mode_tells bases (Tuples m) left = beside refl (inner_tells bases (λ n. mode_fits n bases m) (λ c. c.Fits m) (λ e. e) (mode_tells bases m) left)
  mode_tells bases (SingleMaps f d r) left =
      beside refl (beside (form_there f) (inner_tells bases (λ n. mode_fits n bases d && mode_fits n bases r) (λ c. c.Fits d × c.Fits r) (λ e. e.0)
      (λ n. both (mode_fits n bases d) (mode_fits n bases r) (mode_tells bases d n) (mode_tells bases r n)) left))
  mode_tells bases (MultiMaps f d r) left =
      beside refl (beside (form_there f) (inner_tells bases (λ n. mode_fits n bases d && mode_fits n bases r) (λ c. c.Fits d × c.Fits r) (λ e. e.0)
      (λ n. both (mode_fits n bases d) (mode_fits n bases r) (mode_tells bases d n) (mode_tells bases r n)) left))
  mode_tells bases m left = yes refl

  named_tells : (bases : List Mode) (d : NamedMode) → Tells (named_fits bases d) ((pair name (mode bases)).Fits (named_of d))
  named_tells bases d = both (name_fits d.name) (mode_fits 200 bases (mode_of d.mode)) (name_tells d.name) (mode_tells bases (mode_of d.mode) 200)

  same_modes : (bs : List NamedMode) → modes_of bs ≡ map (λ (b : format.Named). b.1) (map named_of bs)
  same_modes [] = refl
  same_modes (b ∷ bs) = ap (λ (ms : List Mode). mode_of b.mode ∷ ms) (same_modes bs)

  section_tells : (t : ModeTable) → Tells (section_fits t) (format.section.Fits (table_of t))
  section_tells t =
      both (is_list (named_fits []) t.bases) (is_list (named_fits (modes_of t.bases)) t.vars)
      (mapped_tells named_of (named_fits []) (pair name (mode [])) (named_tells []) t.bases)
      (subst (λ (ms : List Mode). Tells (is_list (named_fits (modes_of t.bases)) t.vars) ((listed (pair name (mode ms))).Fits (map named_of t.vars))) (same_modes t.bases)
      (mapped_tells named_of (named_fits (modes_of t.bases)) (pair name (mode (modes_of t.bases))) (named_tells (modes_of t.bases)) t.vars))

-- ---- instructions

no_ten : (x : Bool) → (x ≡ true → ⊥) → not x ≡ true
no_ten true nope = absurd (nope refl)
no_ten false nope = refl

all_clean : (t : List ℕ) → AllByRecursion IsTextByte t → all_are is_text_byte t ≡ true
all_clean [] h = refl
all_clean (b ∷ t) h = (both (is_text_byte b) (all_are is_text_byte t) (itself (is_text_byte b)) (itself (all_are is_text_byte t))).1 (no_ten (nat_eq b 10) (λ e. h.0 (eqb-true b 10 e)), all_clean t h.1)

pub clean_text : (t : List ℕ) → AllByRecursion IsTextByte t → text_fits t ≡ is_number (length t)
clean_text t h = ap (λ b. b && is_number (length t)) (all_clean t h)

text_tells : (t : List ℕ) → Tells (text_fits t) (text.Fits t)
text_tells t = both (all_are is_text_byte t) (is_number (length t)) (itself (all_are is_text_byte t)) (counted_tells t)

operator_there : (what : Operator) → is_updating what ≡ true → slice_get operators (operator_tag what) ≡ Some what
operator_there o.Add h = refl
operator_there o.Subtract h = refl
operator_there o.Multiply h = refl
operator_there o.Power h = refl
operator_there o.Divide h = refl
operator_there o.Modulo h = refl
operator_there o.Max h = refl
operator_there o.Min h = refl
operator_there o.With h = refl
operator_there o.Less h = refl
operator_there o.Lessf h = refl
operator_there o.Npow h = refl
operator_there what h = cc

updating_tells : (what : Operator) → Tells (is_updating what) (steps.an_operator.Fits what)
updating_tells what = (λ h. (h, operator_there what h), λ q. q.0)

bracket_there : (b : Bracket) → steps.a_bracket.Fits b
bracket_there bracket.Round = refl
bracket_there bracket.Brace = refl

brackets_there : (ks : List Bracket) → AllByRecursion steps.a_bracket.Fits ks
brackets_there [] = tt
brackets_there (b ∷ ks) = (bracket_there b, brackets_there ks)

brackets_tell : (ks : List Bracket) → Tells (is_number (length ks)) ((listed steps.a_bracket).Fits ks)
brackets_tell ks = beside tt (before (number_tells (length ks)) (refl, brackets_there ks))

-- the number that an instruction always has
count_tells : (make : ℕ → Instr) → ((m n : ℕ) → make m ≡ make n → m ≡ n) → (n m : ℕ) → Tells (nat_eq n m) (make n ≡ make m)
count_tells make only n m = (λ h. ap make (eqb-true n m h), λ q. eq-eqb n m (only n m q))

operand_tells : (what : Operator) (n m : ℕ) → Tells (nat_eq n m) (i.Operate what n ≡ i.Operate what m)
operand_tells what n m = count_tells (i.Operate what) (λ k l h. cc) n m

begin_tells : (k : Begin) (n m : ℕ) → Tells (nat_eq n m) (i.Begin k n ≡ i.Begin k m)
begin_tells k n m = count_tells (i.Begin k) (λ k l h. cc) n m

module _ (globals own : ℕ) where
  slot_tells : (x : Slot) → Tells (slot_fits globals own x) ((steps.a_slot globals own).Fits x)
  slot_tells (slot.Global k) = both (nat_lt k globals) (is_number (2 * k)) (less_tells k globals) (number_tells (2 * k))
  slot_tells (slot.Own k) = both (nat_lt k own) (is_number (2 * k + 1)) (less_tells k own) (number_tells (2 * k + 1))

  place_tells : (x : Slot) (ks : List Bracket) → Tells (slot_fits globals own x && is_number (length ks)) ((steps.a_place globals own).Fits (x, ks))
  place_tells x ks = both (slot_fits globals own x) (is_number (length ks)) (slot_tells x) (brackets_tell ks)

  operate_tells : (what : Operator) (n : ℕ) → Tells (operate_fits what n) ((steps.instr globals own).Fits (i.Operate what n))
  operate_tells o.SetOf n = beside refl (number_tells n)
  operate_tells o.TupleOf n = beside refl (number_tells n)
  operate_tells o.Put n = no (λ e. e)
  operate_tells o.PutImages n = no (λ e. e)
  operate_tells what n = operand_tells what n (unwrap_or (operand_count what) 0)

  alter_tells : (a : Alteration) (x : Slot) (ks : List Bracket) → Tells (can_alter a && (slot_fits globals own x && is_number (length ks))) ((steps.instr globals own).Fits (i.Alter a x ks))
  alter_tells alteration.Put x ks = beside refl (place_tells x ks)
  alter_tells (alteration.TakeOut TakeLeast) x ks = beside refl (place_tells x ks)
  alter_tells (alteration.TakeOut TakeFirst) x ks = beside refl (place_tells x ks)
  alter_tells (alteration.TakeOut TakeLast) x ks = beside refl (place_tells x ks)
  alter_tells (alteration.Combine what) x ks = beside refl (both (is_updating what) (slot_fits globals own x && is_number (length ks)) (updating_tells what) (place_tells x ks))

  integer_tells : (z : ℤ) → Tells (is_whole z) ((steps.instr globals own).Fits (i.Integer z))
  integer_tells (pos n) = beside refl (less_tells n (2 ^ 127))
  integer_tells (negsuc n) = no (λ q. (let e = q.0 in cc))

  instr_tells : (what : Instr) → Tells (instr_fits globals own what) ((steps.instr globals own).Fits what)
  instr_tells (i.Integer z) = integer_tells z
  instr_tells (i.Text t) = beside refl (text_tells t)
  instr_tells (i.Truth true) = yes refl
  instr_tells (i.Truth false) = yes refl
  instr_tells (i.Load x) = beside refl (slot_tells x)
  instr_tells (i.Take x) = beside refl (slot_tells x)
  instr_tells (i.Store x) = beside refl (slot_tells x)
  instr_tells (i.Operate what n) = operate_tells what n
  instr_tells (i.Alter a x ks) = alter_tells a x ks
  instr_tells (i.Decide And to) = beside refl (number_tells to)
  instr_tells (i.Decide Or to) = beside refl (number_tells to)
  instr_tells (i.Decide Implies to) = beside refl (number_tells to)
  instr_tells (i.Unless to) = beside refl (number_tells to)
  instr_tells (i.Jump to) = beside refl (number_tells to)
  instr_tells (i.Parts n) = beside refl (number_tells n)
  instr_tells (i.Begin (begin.Members Values) n) = begin_tells (begin.Members Values) n 1
  instr_tells (i.Begin (begin.Members Between) n) = begin_tells (begin.Members Between) n 2
  instr_tells (i.Begin (begin.Members SetSteps) n) = begin_tells (begin.Members SetSteps) n 3
  instr_tells (i.Begin (begin.Members TupleSteps) n) = begin_tells (begin.Members TupleSteps) n 3
  instr_tells (i.Begin begin.Points n) = begin_tells begin.Points n 1
  instr_tells (i.Next to) = beside refl (number_tells to)
  instr_tells (i.Collect OfSet) = yes refl
  instr_tells (i.Collect OfTuple) = yes refl
  instr_tells (i.Add n) = beside refl (number_tells n)
  instr_tells (i.Leave n) = beside refl (number_tells n)
  instr_tells (i.Call n) = beside refl (number_tells n)
  instr_tells (i.Print n) = beside refl (number_tells n)
  instr_tells what = yes refl

  step_tells : (s : Step) → Tells (step_fits globals own s) ((steps.step globals own).Fits s)
  step_tells s = beside tt (both (is_number s.line) (instr_fits globals own s.what) (number_tells s.line) (instr_tells s.what))

-- ---- the whole

no_items : (listed (never {A = ⊥})).Fits []
no_items = (tt, ((number_tells 0).0 refl, (refl, tt)))

body_tells : (globals : ℕ) (b : Body) → Tells (body_fits globals b) ((format.body globals).Fits b)
body_tells globals b =
    beside refl
    (both (name_fits b.name && (is_list param_fits b.parameters && is_list own_name_fits b.names)) (is_list (step_fits globals (length b.parameters + length b.names)) b.steps)
    (both (name_fits b.name) (is_list param_fits b.parameters && is_list own_name_fits b.names) (name_tells b.name)
    (both (is_list param_fits b.parameters) (is_list own_name_fits b.names) (list_tells param_fits format.param param_tells b.parameters)
    (beside no_items (beside no_items (list_tells own_name_fits own_name own_name_tells b.names)))))
    (list_tells (step_fits globals (length b.parameters + length b.names)) (steps.step globals (length b.parameters + length b.names)) (step_tells globals (length b.parameters + length b.names)) b.steps))

pub image_tells : BasesAreTold → (x : Image) → Tells (image_fits x) (format.image.Fits (image_of x))
image_tells told x =
    let bodies = x.code.bodies in
    let globals = length x.code.vars in
    beside refl
    (both (is_list name_fits x.code.vars) (section_fits x.modes && (format.some_bodies bodies && is_list (body_fits globals) bodies)) (list_tells name_fits name name_tells x.code.vars)
    (both (section_fits x.modes) (format.some_bodies bodies && is_list (body_fits globals) bodies) (section_tells told x.modes)
    (both (format.some_bodies bodies) (is_list (body_fits globals) bodies) (itself (format.some_bodies bodies)) (list_tells (body_fits globals) (format.body globals) (body_tells globals) bodies))))
