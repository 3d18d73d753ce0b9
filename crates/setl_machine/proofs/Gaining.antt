-- What instructions make of the bases, by their events.
use Rattle.std.proofs.Common.{◌≡◌, ◌∙◌, ℕ, zero, suc, Bool, true, false, List, [], ◌∷◌, Option, Some, None, refl, sym, ap, subst}
use Rattle.std.specs.Prelude.{cond, length, slice_get, IfOk, IfSome, Result, Ok, Err}
use Rattle.std.specs.Global.{Vec}
use Rattle.std.specs.declared.alloc.AllocError.{AllocError}
use Rattle.std.proofs.lemmas.Result.{IfOk-weaker}
use Rattle.setl_value.specs.Datum.{Datum}
use Rattle.setl_text.specs.Texts.{print_line}
use Rattle.setl_modes.specs.Modes.{Mode}
use Rattle.setl_modes_places.specs.Places.{lengthened}
use Rattle.setl_model.specs.Entered.{Base, with_event, elements_of_store}
use Rattle.setl_model.specs.Step.{declared_mode}
use Rattle.setl_model_runs.specs.Events.{Event, Called, Returned, Stored, Printed, Kept, Back, Forgot}
use Rattle.setl_model_runs.specs.Variable.{Variable, Global, Own, Bound}
use Rattle.setl_model.specs.Calls.{bindings}
use Rattle.setl_model.specs.World.{World}
use Rattle.setl_program.specs.Program.{Parameter}
use Rattle.setl_code.specs.declared.code.Instr as code
use Rattle.setl_code.specs.declared.code.Instr.TheVariants as i
use Rattle.setl_code.specs.Code.{Code, Instr, Body, Alteration, Bracket, StoreIn, Alter, CallBody, ReturnTop, PrintTop, KeepAll, GoBack, ForgetKept}
use Rattle.setl_code.specs.CodeCore.{CodeCore, held, popped}
use Rattle.setl_code.specs.Machine.{selected_by}
use Rattle.setl_code.specs.Plain.{Variables, plain_code, plain_instr}
use Rattle.setl_code_events.specs.Told.{events_of, store_told, stores_told, value_held, popped_values, called, call_told, return_told}
use Rattle.setl_store.specs.Gained.{with_places, with_kept, cut_to_kept, without_kept}
use Rattle.setl_store.specs.Standing.{Standing}
use Rattle.setl_machine_control.specs.Control.{ControlState, in_world, stood_for}
use Rattle.setl_machine_control.specs.Declaring.{Modes, AreOfMain, IsBare}
use Rattle.setl_machine_control.specs.Gaining.{gained_by, BasesAre}
use Rattle.setl_machine_control.specs.declared.end.End.{End}
use Rattle.setl_machine_control.specs.declared.end.End.TheVariants.{Done, Stopped, Spent, Paused, ReadFault, WriteFault, NoMemory, Stuck}
use Rattle.setl_machine_variables.specs.Altered.{stores_new}
use Rattle.setl_machine_variables.specs.Gaining.{after_store, stores_at, GainsStore, GainsIf}
use Rattle.setl_machine.specs.Families.{family_of}
use Rattle.setl_machine.specs.Gaining.{each_with, bases_after, Gains, StayBases, GainsOrLeaves}
use Rattle.setl_machine.specs.Outcome.{Seen}
use Rattle.setl_machine.specs.Working.{went_on, Begins, TakesArguments, TakesLine, WritesLine}
use Rattle.setl_machine_control.specs.Working.{Works, Does}
use Rattle.setl_machine.specs.declared.families.Family.TheVariants as family
use Rattle.setl_machine.proofs.Declared.{not_declared}
use Rattle.setl_machine.proofs.Told.{alter_noticed, held_here, told_in_world}

-- the main body has no parameters
abbrev IsEmptyAtMain : ℕ → Body → Type 0
IsEmptyAtMain zero b = b.parameters ≡ []
IsEmptyAtMain (suc n) b = Unit {0}

-- ---- events

no_more : (ds : List Datum) → lengthened ds [] ≡ ds
no_more [] = refl
no_more (d ∷ ds) = ap (λ l. d ∷ l) (no_more ds)

pub called_same : (modes : Modes) (n : ℕ) (bs : List Base) (line : ℕ) (name : List ℕ) → each_with modes n bs (Called line name) ≡ bs
called_same modes n [] line name = refl
called_same modes n (b ∷ bs) line name = ap (λ l. b ∷ l) (called_same modes (suc n) bs line name)

pub returned_same : (modes : Modes) (n : ℕ) (bs : List Base) (name : List ℕ) → each_with modes n bs (Returned name) ≡ bs
returned_same modes n [] name = refl
returned_same modes n (b ∷ bs) name = ap (λ l. b ∷ l) (returned_same modes (suc n) bs name)

pub printed_same : (modes : Modes) (n : ℕ) (bs : List Base) (bytes : List ℕ) → each_with modes n bs (Printed bytes) ≡ bs
printed_same modes n [] bytes = refl
printed_same modes n (b ∷ bs) bytes = ap (λ l. b ∷ l) (printed_same modes (suc n) bs bytes)

kept_each : (modes : Modes) (n : ℕ) (bs : List Base) → each_with modes n bs Kept ≡ with_kept bs
kept_each modes n [] = refl
kept_each modes n (b ∷ bs) = ap (λ l. with_event modes n b Kept ∷ l) (kept_each modes (suc n) bs)

back_each : (modes : Modes) (n : ℕ) (bs : List Base) → each_with modes n bs Back ≡ cut_to_kept bs
back_each modes n [] = refl
back_each modes n (b ∷ bs) = ap (λ l. with_event modes n b Back ∷ l) (back_each modes (suc n) bs)

forgot_each : (modes : Modes) (n : ℕ) (bs : List Base) → each_with modes n bs Forgot ≡ without_kept bs
forgot_each modes n [] = refl
forgot_each modes n (b ∷ bs) = ap (λ l. with_event modes n b Forgot ∷ l) (forgot_each modes (suc n) bs)

-- a store, by the mode of its variable
abbrev stored_one : (n : ℕ) (m : Option Mode) (v : Option Datum) (b : Base) → Base
stored_one n m v b = record b { members = lengthened b.members (elements_of_store n m v) }

stored_none : (n : ℕ) (v : Option Datum) (b : Base) → stored_one n None v b ≡ b
stored_none n v b = λ i. record { members = no_more b.members i; kept = b.kept }

stored_om : (n : ℕ) (m : Mode) (b : Base) → stored_one n (Some m) None b ≡ b
stored_om n m b = λ i. record { members = no_more b.members i; kept = b.kept }

none_each : (modes : Modes) (line : ℕ) (x : Variable) (v : Option Datum) (n : ℕ) (bs : List Base) → declared_mode modes x ≡ None → each_with modes n bs (Stored line x v) ≡ bs
none_each modes line x v n [] is = refl
none_each modes line x v n (b ∷ bs) is =
    let here : with_event modes n b (Stored line x v) ≡ b = ap (λ m. stored_one n m v b) is ∙ stored_none n v b in
    λ i. here i ∷ none_each modes line x v (suc n) bs is i

om_each : (modes : Modes) (line : ℕ) (x : Variable) (m : Mode) (n : ℕ) (bs : List Base) → declared_mode modes x ≡ Some m → each_with modes n bs (Stored line x None) ≡ bs
om_each modes line x m n [] is = refl
om_each modes line x m n (b ∷ bs) is =
    let here : with_event modes n b (Stored line x None) ≡ b = ap (λ m. stored_one n m None b) is ∙ stored_om n m b in
    λ i. here i ∷ om_each modes line x m (suc n) bs is i

value_each : (modes : Modes) (line : ℕ) (x : Variable) (m : Mode) (d : Datum) (n : ℕ) (bs : List Base) → declared_mode modes x ≡ Some m → each_with modes n bs (Stored line x (Some d)) ≡ with_places n m d bs
value_each modes line x m d n [] is = refl
value_each modes line x m d n (b ∷ bs) is =
    let here : with_event modes n b (Stored line x (Some d)) ≡ stored_one n (Some m) (Some d) b = ap (λ m. stored_one n m (Some d) b) is in
    λ i. here i ∷ value_each modes line x m d (suc n) bs is i

pub stored_each : (modes : Modes) (line : ℕ) (x : Variable) (v : Option Datum) (bs : List Base) → each_with modes 0 bs (Stored line x v) ≡ gained_by (declared_mode modes x) v bs
stored_each modes line x v bs = go (declared_mode modes x) refl v
  where
    go : (m : Option Mode) → declared_mode modes x ≡ m → (v : Option Datum) → each_with modes 0 bs (Stored line x v) ≡ gained_by m v bs
    go None is v = none_each modes line x v 0 bs is
    go (Some m) is None = om_each modes line x m 0 bs is
    go (Some m) is (Some d) = value_each modes line x m d 0 bs is

-- no variable of a former is declared
pub store_told_gains : (modes : Modes) (line : ℕ) (x : Variable) (k : CodeCore) (bs : List Base) → ((former : ℕ) (name : List ℕ) → declared_mode modes (Bound former name) ≡ None) → bases_after modes bs (store_told line x k) ≡ gained_by (declared_mode modes x) (value_held (held x k)) bs
store_told_gains modes line (Global name) k bs none = stored_each modes line (Global name) (value_held (held (Global name) k)) bs
store_told_gains modes line (Own body name) k bs none = stored_each modes line (Own body name) (value_held (held (Own body name) k)) bs
store_told_gains modes line (Bound former name) k bs none = sym (ap (λ m. gained_by m (value_held (held (Bound former name) k)) bs) (none former name))

-- ---- instructions

-- one that tells nothing leaves the bases
pub gains_same : (modes : Modes) (c : Code) (line : ℕ) (i : Instr) (k d : CodeCore) (bs cs : List Base) (e : End) → bases_after modes bs (events_of c line i k d) ≡ bs → cs ≡ bs → Gains modes c line i k d bs cs e
gains_same modes c line i k d bs cs Paused told same = same ∙ sym told
gains_same modes c line i k d bs cs Done told same = same
gains_same modes c line i k d bs cs (Stopped why at) told same = same
gains_same modes c line i k d bs cs Spent told same = same
gains_same modes c line i k d bs cs ReadFault told same = same
gains_same modes c line i k d bs cs WriteFault told same = tt
gains_same modes c line i k d bs cs NoMemory told same = tt
gains_same modes c line i k d bs cs Stuck told same = same

-- where the events lead to these bases
pub gains_by : (modes : Modes) (c : Code) (line : ℕ) (i : Instr) (k d : CodeCore) (bs to cs : List Base) (e : End) → bases_after modes bs (events_of c line i k d) ≡ to → BasesAre to bs cs e → Gains modes c line i k d bs cs e
gains_by modes c line i k d bs to cs Paused told g = g ∙ sym told
gains_by modes c line i k d bs to cs Done told g = g
gains_by modes c line i k d bs to cs (Stopped why at) told g = g
gains_by modes c line i k d bs to cs Spent told g = g
gains_by modes c line i k d bs to cs ReadFault told g = g
gains_by modes c line i k d bs to cs WriteFault told g = tt
gains_by modes c line i k d bs to cs NoMemory told g = tt
gains_by modes c line i k d bs to cs Stuck told g = g

-- ---- stores, updates, calls and returns

-- no variable of a former is declared
pub former_undeclared : (modes : Modes) → AreOfMain modes → (former : ℕ) (name : List ℕ) → declared_mode modes (Bound former name) ≡ None
former_undeclared [] h former name = refl
former_undeclared ((Global a, m) ∷ ms) h former name = former_undeclared ms h.1 former name
former_undeclared ((Own zero a, m) ∷ ms) h former name = former_undeclared ms h.1 former name
former_undeclared ((Own (suc k) a, m) ∷ ms) h former name = absurd h.0
former_undeclared ((Bound f a, m) ∷ ms) h former name = absurd h.0

-- a store into a variable
pub store_gains : (modes : Modes) → AreOfMain modes → (old new : Standing) (line : ℕ) (x : Variable) (k : CodeCore) (w : World) (e : End) → GainsStore modes x old new e → Gains modes (plain_code old.code) line (StoreIn x) k (in_world w new.core) old.bases new.bases e
store_gains modes main old new line x k w e g =
    gains_by modes (plain_code old.code) line (StoreIn x) k (in_world w new.core) old.bases (after_store modes x old new) new.bases e
    (ap (bases_after modes old.bases) (told_in_world line x w new.core) ∙ store_told_gains modes line x new.core old.bases (former_undeclared modes main)) g

-- an update of one
told_if : (modes : Modes) (b : Bool) (bs : List Base) (es : List Event) → bases_after modes bs (cond b es []) ≡ cond b (bases_after modes bs es) bs
told_if modes true bs es = refl
told_if modes false bs es = refl

pub alter_gains : (modes : Modes) → AreOfMain modes → (old new : Standing) (from to : ControlState) (line : ℕ) (a : Alteration) (x : Variable) (bs : List Bracket) (rest rest' : List ℕ) (e : End) → GainsIf (stores_at a x bs old.core from.turns) modes x old new e →
    Gains modes (plain_code old.code) line (Alter a x bs) (stood_for old.core from rest) (stood_for new.core to rest') old.bases new.bases e
alter_gains modes main old new from to line a x bs rest rest' e g =
    let k = stood_for old.core from rest in
    let d = stood_for new.core to rest' in
    let at = selected_by bs (popped_values (popped (length bs) [] old.core.now.operands)) in
    let stored = stores_at a x bs old.core from.turns in
    let told : bases_after modes old.bases (events_of (plain_code old.code) line (Alter a x bs) k d) ≡ cond stored (after_store modes x old new) old.bases =
    ap (bases_after modes old.bases) (alter_noticed line a x (value_held (held x k)) at k d)
    ∙ ap (λ h. bases_after modes old.bases (cond (stores_new a (value_held h) at from.turns) (store_told line x d) [])) (held_here x _ old.core)
    ∙ told_if modes stored old.bases (store_told line x d)
    ∙ ap (λ cs. cond stored cs old.bases) (ap (bases_after modes old.bases) (told_in_world line x _ new.core) ∙ store_told_gains modes line x new.core old.bases (former_undeclared modes main)) in
    gains_by modes (plain_code old.code) line (Alter a x bs) k d old.bases (cond stored (after_store modes x old new) old.bases) new.bases e told g

-- whether it stored counts only where it goes on
stores_so : (stored at : Bool) (modes : Modes) (x : Variable) (old new : Standing) (e : End) → (e ≡ Paused → stored ≡ at) → GainsIf stored modes x old new e → GainsIf at modes x old new e
stores_so stored at modes x old new Paused same g = subst (λ b. GainsIf b modes x old new Paused) (same refl) g
stores_so stored at modes x old new Done same g = g
stores_so stored at modes x old new (Stopped why line) same g = g
stores_so stored at modes x old new Spent same g = g
stores_so stored at modes x old new ReadFault same g = g
stores_so stored at modes x old new WriteFault same g = g
stores_so stored at modes x old new NoMemory same g = g
stores_so stored at modes x old new Stuck same g = g

pub altered_gains : (modes : Modes) → AreOfMain modes → (old new : Standing) (from to : ControlState) (line : ℕ) (a : Alteration) (x : Variable) (bs : List Bracket) (stored : Bool) (rest rest' : List ℕ) (e : End) → (e ≡ Paused → stored ≡ stores_at a x bs old.core from.turns) → GainsIf stored modes x old new e →
    Gains modes (plain_code old.code) line (Alter a x bs) (stood_for old.core from rest) (stood_for new.core to rest') old.bases new.bases e
altered_gains modes main old new from to line a x bs stored rest rest' e same g =
    alter_gains modes main old new from to line a x bs rest rest' e (stores_so stored (stores_at a x bs old.core from.turns) modes x old new e same g)

-- the parameters of a body are not declared
bindings_same : (modes : Modes) → AreOfMain modes → (line n : ℕ) (ps : List Parameter) (vs : List (Option Datum)) (bs : List Base) → bases_after modes bs (stores_told line (bindings (suc n) ps vs)) ≡ bs
bindings_same modes main line n [] vs bs = refl
bindings_same modes main line n (p ∷ ps) [] bs =
    ap (λ cs. bases_after modes cs (stores_told line (bindings (suc n) ps []))) (none_each modes line (Own (suc n) p.name) None 0 bs (not_declared modes main n p.name)) ∙ bindings_same modes main line n ps [] bs
bindings_same modes main line n (p ∷ ps) (v ∷ vs) bs =
    ap (λ cs. bases_after modes cs (stores_told line (bindings (suc n) ps vs))) (none_each modes line (Own (suc n) p.name) v 0 bs (not_declared modes main n p.name)) ∙ bindings_same modes main line n ps vs bs

body_same : (modes : Modes) → AreOfMain modes → (n line : ℕ) (b : Body) (vs : List (Option Datum)) (bs : List Base) → IsEmptyAtMain n b → bases_after modes bs (called n b line vs) ≡ bs
body_same modes main zero line b vs bs bare = ap (λ ps. bases_after modes (each_with modes 0 bs (Called line b.name)) (stores_told line (bindings 0 ps vs))) bare ∙ called_same modes 0 bs line b.name
body_same modes main (suc n) line b vs bs bare = ap (λ cs. bases_after modes cs (stores_told line (bindings (suc n) b.parameters vs))) (called_same modes 0 bs line b.name) ∙ bindings_same modes main line n b.parameters vs bs

pub call_told_same : (modes : Modes) → AreOfMain modes → (n line : ℕ) (b : Option Body) (k : CodeCore) (bs : List Base) → IfSome b (IsEmptyAtMain n) → bases_after modes bs (call_told n b line k) ≡ bs
call_told_same modes main n line None k bs bare = refl
call_told_same modes main n line (Some b) k bs bare = body_same modes main n line b (popped_values (popped (length b.parameters) [] k.now.operands)) bs bare

pub at_main : (c : Code) (n : ℕ) → IsBare c → IfSome (slice_get c.bodies n) (IsEmptyAtMain n)
at_main c zero bare = bare
at_main c (suc n) bare = go (slice_get c.bodies (suc n))
  where
    go : (b : Option Body) → IfSome b (IsEmptyAtMain (suc n))
    go None = tt
    go (Some b) = tt

pub call_gains : (modes : Modes) → AreOfMain modes → (c : Code) → IsBare c → (n line : ℕ) (k d : CodeCore) (bs cs : List Base) (e : End) → cs ≡ bs → Gains modes c line (CallBody n) k d bs cs e
call_gains modes main c bare n line k d bs cs e same = gains_same modes c line (CallBody n) k d bs cs e (call_told_same modes main n line (slice_get c.bodies n) k bs (at_main c n bare)) same

pub begun_gains : (modes : Modes) → AreOfMain modes → (old mid new : Standing) → IsBare (plain_code old.code) → (from to : ControlState) (n line : ℕ) (vs : List (Option Datum)) (k d : CodeCore) (e : End) → TakesArguments n old (Some vs) mid → Begins n vs mid from new to e → Gains modes (plain_code old.code) line (CallBody n) k d old.bases new.bases e
begun_gains modes main old mid new bare from to n line vs k d e t b = call_gains modes main (plain_code old.code) bare n line k d old.bases new.bases e (go e b ∙ ap (λ s. s.bases) t.0)
  where
    go : (e : End) → Begins n vs mid from new to e → new.bases ≡ mid.bases
    go Paused b = ap (λ s. s.bases) b.1
    go Spent b = ap (λ s. s.bases) b.1
    go Done b = absurd b
    go (Stopped why at) b = absurd b
    go ReadFault b = absurd b
    go WriteFault b = absurd b
    go NoMemory b = absurd b
    go Stuck b = absurd b

pub return_same : (modes : Modes) (b : Option Body) (bs : List Base) → bases_after modes bs (return_told b) ≡ bs
return_same modes None bs = refl
return_same modes (Some b) bs = returned_same modes 0 bs b.name

pub return_gains : (modes : Modes) (c : Code) (line : ℕ) (k d : CodeCore) (bs cs : List Base) (e : End) → cs ≡ bs → Gains modes c line ReturnTop k d bs cs e
return_gains modes c line k d bs cs e same = gains_same modes c line ReturnTop k d bs cs e (return_same modes (slice_get c.bodies k.now.body) bs) same

-- ---- `ok`, `fail` and `succeed`

pub keep_gains : (modes : Modes) (c : Code) (line : ℕ) (k d : CodeCore) (bs cs : List Base) (e : End) → BasesAre (with_kept bs) bs cs e → Gains modes c line KeepAll k d bs cs e
keep_gains modes c line k d bs cs e g = gains_by modes c line KeepAll k d bs (with_kept bs) cs e (kept_each modes 0 bs) g

pub back_gains : (modes : Modes) (c : Code) (line : ℕ) (k d : CodeCore) (bs cs : List Base) (e : End) → BasesAre (cut_to_kept bs) bs cs e → Gains modes c line GoBack k d bs cs e
back_gains modes c line k d bs cs e g = gains_by modes c line GoBack k d bs (cut_to_kept bs) cs e (back_each modes 0 bs) g

pub forget_gains : (modes : Modes) (c : Code) (line : ℕ) (k d : CodeCore) (bs cs : List Base) (e : End) → BasesAre (without_kept bs) bs cs e → Gains modes c line ForgetKept k d bs cs e
forget_gains modes c line k d bs cs e g = gains_by modes c line ForgetKept k d bs (without_kept bs) cs e (forgot_each modes 0 bs) g

-- ---- `print`

print_gains : (modes : Modes) (c : Code) (line n : ℕ) (k d : CodeCore) (bs cs : List Base) (e : End) → cs ≡ bs → Gains modes c line (PrintTop n) k d bs cs e
print_gains modes c line n k d bs cs e same = gains_same modes c line (PrintTop n) k d bs cs e (printed_same modes 0 bs (print_line (popped_values (popped n [] k.now.operands)))) same

-- a line was written, or wasn't
pub written_gains : (modes : Modes) (c : Code) (line n : ℕ) (k d : CodeCore) (old mid new : Standing) (bytes : Vec ℕ) (from to : Seen) (e : End) → TakesLine n old (Ok bytes) mid → WritesLine bytes.items mid from new to e → Gains modes c line (PrintTop n) k d old.bases new.bases e
written_gains modes c line n k d old mid new bytes from to Paused t h = print_gains modes c line n k d old.bases new.bases Paused (ap (λ s. s.bases) h.0 ∙ ap (λ s. s.bases) t.0)
written_gains modes c line n k d old mid new bytes from to WriteFault t h = tt
written_gains modes c line n k d old mid new bytes from to NoMemory t h = tt
written_gains modes c line n k d old mid new bytes from to Done t h = absurd h
written_gains modes c line n k d old mid new bytes from to (Stopped why at) t h = absurd h
written_gains modes c line n k d old mid new bytes from to Spent t h = absurd h
written_gains modes c line n k d old mid new bytes from to ReadFault t h = absurd h
written_gains modes c line n k d old mid new bytes from to Stuck t h = absurd h

-- no line was made
pub unwritten_gains : (modes : Modes) (c : Code) (line n : ℕ) (k d : CodeCore) (old mid : Standing) (e : End) → TakesLine n old (Err e) mid → Gains modes c line (PrintTop n) k d old.bases mid.bases e
unwritten_gains modes c line n k d old mid Stuck t = print_gains modes c line n k d old.bases mid.bases Stuck (ap (λ s. s.bases) t.0)
unwritten_gains modes c line n k d old mid NoMemory t = tt
unwritten_gains modes c line n k d old mid Done t = absurd t
unwritten_gains modes c line n k d old mid (Stopped why at) t = absurd t
unwritten_gains modes c line n k d old mid Spent t = absurd t
unwritten_gains modes c line n k d old mid Paused t = absurd t
unwritten_gains modes c line n k d old mid ReadFault t = absurd t
unwritten_gains modes c line n k d old mid WriteFault t = absurd t

-- ---- the other families tell nothing

abbrev pub LeavesBases : Instr → Type 0
LeavesBases i = (c : Code) (line : ℕ) (k d : CodeCore) → events_of c line i k d ≡ []

pub family_leaves : (what : code.Instr) (xs : Variables) → (family_of what ≡ family.Variables → ⊥) → (family_of what ≡ family.Calls → ⊥) → (family_of what ≡ family.Backtracking → ⊥) → (family_of what ≡ family.Outside → ⊥) → LeavesBases (plain_instr xs what)
family_leaves (i.Integer n) xs v j b o = λ c line k d. refl
family_leaves (i.Text s) xs v j b o = λ c line k d. refl
family_leaves (i.Truth s) xs v j b o = λ c line k d. refl
family_leaves i.Undefined xs v j b o = λ c line k d. refl
family_leaves (i.Load x) xs v j b o = λ c line k d. refl
family_leaves (i.Take x) xs v j b o = λ c line k d. refl
family_leaves (i.Store x) xs v j b o = absurd (v refl)
family_leaves (i.Alter a x bs) xs v j b o = absurd (v refl)
family_leaves (i.Operate p n) xs v j b o = λ c line k d. refl
family_leaves i.NewAtom xs v j b o = λ c line k d. refl
family_leaves i.Eof xs v j b o = λ c line k d. refl
family_leaves (i.Decide p to) xs v j b o = λ c line k d. refl
family_leaves i.TestTruth xs v j b o = λ c line k d. refl
family_leaves (i.Unless to) xs v j b o = λ c line k d. refl
family_leaves (i.Jump to) xs v j b o = λ c line k d. refl
family_leaves i.Discard xs v j b o = λ c line k d. refl
family_leaves i.Duplicate xs v j b o = λ c line k d. refl
family_leaves i.Stop xs v j b o = λ c line k d. refl
family_leaves (i.Parts n) xs v j b o = λ c line k d. refl
family_leaves (i.Begin how n) xs v j b o = λ c line k d. refl
family_leaves (i.Next to) xs v j b o = λ c line k d. refl
family_leaves (i.Collect p) xs v j b o = λ c line k d. refl
family_leaves (i.Add n) xs v j b o = λ c line k d. refl
family_leaves (i.Leave n) xs v j b o = λ c line k d. refl
family_leaves i.Round xs v j b o = λ c line k d. refl
family_leaves (i.Call n) xs v j b o = absurd (j refl)
family_leaves i.Return xs v j b o = absurd (j refl)
family_leaves i.Keep xs v j b o = absurd (b refl)
family_leaves i.Back xs v j b o = absurd (b refl)
family_leaves i.Forget xs v j b o = absurd (b refl)
family_leaves (i.Print n) xs v j b o = absurd (o refl)
family_leaves i.Read xs v j b o = λ c line k d. refl

pub leaves_gains : (modes : Modes) (c : Code) (line : ℕ) (i : Instr) (k d : CodeCore) (bs cs : List Base) (e : End) → LeavesBases i → cs ≡ bs → Gains modes c line i k d bs cs e
leaves_gains modes c line i k d bs cs e none same = gains_same modes c line i k d bs cs e (ap (bases_after modes bs) (none c line k d)) same

-- ---- done at once

stays_so : (bs cs : List Base) (r : Result End AllocError) → IfOk r (λ e. cs ≡ bs) → StayBases bs cs (went_on r)
stays_so bs cs (Ok Paused) h = h
stays_so bs cs (Ok Done) h = h
stays_so bs cs (Ok (Stopped why at)) h = h
stays_so bs cs (Ok Spent) h = h
stays_so bs cs (Ok ReadFault) h = h
stays_so bs cs (Ok WriteFault) h = h
stays_so bs cs (Ok NoMemory) h = tt
stays_so bs cs (Ok Stuck) h = h
stays_so bs cs (Err e) h = tt

pub stays_ok : (bs cs : List Base) (r : Result End AllocError) (q : Result Bool End) → q ≡ went_on r → IfOk r (λ e. cs ≡ bs) → StayBases bs cs q
stays_ok bs cs r q e h = subst (StayBases bs cs) (sym e) (stays_so bs cs r h)

pub works_stay : (old new : Standing) (line : ℕ) (i : Instr) (r : Result End AllocError) (q : Result Bool End) → q ≡ went_on r → IfOk r (λ e. Works old line i new e) → StayBases old.bases new.bases q
works_stay old new line i r q e h = stays_ok old.bases new.bases r q e (IfOk-weaker r (λ e. Works old line i new e) (λ e. new.bases ≡ old.bases) (λ e w. w.2) h)

pub does_stay : (old new : Standing) (from to : ControlState) (line : ℕ) (i : Instr) (r : Result End AllocError) (q : Result Bool End) → q ≡ went_on r → IfOk r (λ e. Does old from line i new to e) → StayBases old.bases new.bases q
does_stay old new from to line i r q e h = stays_ok old.bases new.bases r q e (IfOk-weaker r (λ e. Does old from line i new to e) (λ e. new.bases ≡ old.bases) (λ e w. w.2) h)

pub stay_gains : (modes : Modes) (c : Code) (line : ℕ) (i : Instr) (k d : CodeCore) (bs cs : List Base) (q : Result Bool End) → bases_after modes bs (events_of c line i k d) ≡ bs → StayBases bs cs q → GainsOrLeaves modes c line i k d bs cs q
stay_gains modes c line i k d bs cs (Ok true) told h = h ∙ sym told
stay_gains modes c line i k d bs cs (Ok false) told h = h
stay_gains modes c line i k d bs cs (Err Paused) told h = h ∙ sym told
stay_gains modes c line i k d bs cs (Err Done) told h = h
stay_gains modes c line i k d bs cs (Err (Stopped why at)) told h = h
stay_gains modes c line i k d bs cs (Err Spent) told h = h
stay_gains modes c line i k d bs cs (Err ReadFault) told h = h
stay_gains modes c line i k d bs cs (Err WriteFault) told h = tt
stay_gains modes c line i k d bs cs (Err NoMemory) told h = tt
stay_gains modes c line i k d bs cs (Err Stuck) told h = h

-- by what one instruction did that is no store
pub works_gain : (modes : Modes) (old new : Standing) (line : ℕ) (i : Instr) (k d : CodeCore) (r : Result End AllocError) (q : Result Bool End) → LeavesBases i → q ≡ went_on r → IfOk r (λ e. Works old line i new e) → GainsOrLeaves modes (plain_code old.code) line i k d old.bases new.bases q
works_gain modes old new line i k d r q none e h = stay_gains modes (plain_code old.code) line i k d old.bases new.bases q (ap (bases_after modes old.bases) (none (plain_code old.code) line k d)) (works_stay old new line i r q e h)

went_gains : (modes : Modes) (c : Code) (line : ℕ) (i : Instr) (k d : CodeCore) (bs cs : List Base) (r : Result End AllocError) → IfOk r (Gains modes c line i k d bs cs) → GainsOrLeaves modes c line i k d bs cs (went_on r)
went_gains modes c line i k d bs cs (Ok Paused) h = h
went_gains modes c line i k d bs cs (Ok Done) h = h
went_gains modes c line i k d bs cs (Ok (Stopped why at)) h = h
went_gains modes c line i k d bs cs (Ok Spent) h = h
went_gains modes c line i k d bs cs (Ok ReadFault) h = h
went_gains modes c line i k d bs cs (Ok WriteFault) h = h
went_gains modes c line i k d bs cs (Ok NoMemory) h = h
went_gains modes c line i k d bs cs (Ok Stuck) h = h
went_gains modes c line i k d bs cs (Err e) h = tt

pub gains_went : (modes : Modes) (c : Code) (line : ℕ) (i : Instr) (k d : CodeCore) (bs cs : List Base) (r : Result End AllocError) (q : Result Bool End) → q ≡ went_on r → IfOk r (Gains modes c line i k d bs cs) → GainsOrLeaves modes c line i k d bs cs q
gains_went modes c line i k d bs cs r q e h = subst (GainsOrLeaves modes c line i k d bs cs) (sym e) (went_gains modes c line i k d bs cs r h)

-- a store that entered nothing
pub stored_gain : (modes : Modes) → AreOfMain modes → (old new : Standing) (line : ℕ) (x : Variable) (k : CodeCore) (w : World) (done : Bool) → new.bases ≡ old.bases → ((v : Option Datum) → done ≡ true → gained_by (declared_mode modes x) v old.bases ≡ old.bases) →
    GainsOrLeaves modes (plain_code old.code) line (StoreIn x) k (in_world w new.core) old.bases new.bases (Ok done)
stored_gain modes main old new line x k w true same none =
    same ∙ sym (ap (bases_after modes old.bases) (told_in_world line x w new.core) ∙ store_told_gains modes line x new.core old.bases (former_undeclared modes main) ∙ none (value_held (held x new.core)) refl)
stored_gain modes main old new line x k w false same none = same
