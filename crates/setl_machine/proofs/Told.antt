-- The events of stores, updates, calls and prints.
use Rattle.std.proofs.Common.{◌≡◌, ◌∙◌, ℕ, Bool, true, false, List, [], ◌∷◌, ◌++◌, length, map, Option, Some, None, Result, Ok, Err, refl, sym, ap, subst, arith}
use Rattle.std.specs.Prelude.{cond, slice_get, OnOk, IfErr}
use Rattle.std.specs.Global.{Vec}
use Rattle.std.proofs.lemmas.List.{length-map}
use Rattle.setl_value.specs.Datum.{Datum}
use Rattle.setl_text.specs.Texts.{print_line}
use Rattle.setl_model_runs.specs.Variable.{Variable, Global, Own, Bound}
use Rattle.setl_model.specs.Core.{Selected}
use Rattle.setl_model.specs.Places.{part_at_all}
use Rattle.setl_model.specs.World.{World}
use Rattle.setl_watch.specs.Notices.{Printed as PrintNotice, noticed, without_last}
use Rattle.setl_watch.specs.code.NoticeOf.{notice_of}
use Rattle.setl_watch.specs.declared.event.Event.{Event}
use Rattle.setl_code.specs.declared.code.Slot.{Slot}
use Rattle.setl_code.specs.declared.code.Slot.TheVariants as slot
use Rattle.setl_code.specs.Code.{Bracket, Alteration, Putting, Combining, TakingOut, Body, Code, StoreIn, Alter, CallBody, PrintTop, Instr, Step}
use Rattle.setl_code.specs.CodeCore.{Operand, Pops, popped, CodeCore, held}
use Rattle.setl_code.specs.Machine.{selected_by, fetch}
use Rattle.setl_code.specs.MayRun.{HasSlot}
use Rattle.setl_code.specs.Plain.{Variables, plain_code, plain_slot}
use Rattle.setl_code_events.specs.Told.{value_held, store_told, popped_values, none_taken, alter_told, call_told}
use Rattle.setl_code_events.specs.Notes.{told_name, own_slots, variable_of, store_notices, call_notices}
use Rattle.setl_store.specs.Standing.{Standing, no_world, variables, variables_by, variables_in}
use Rattle.setl_machine_variables.specs.Altered.{stores_new}
use Rattle.setl_machine_control.specs.Control.{ControlState, in_world, stood_for}
use Rattle.setl_machine_control.specs.Declaring.{Modes}
use Rattle.setl_machine.specs.Hearing.{Tells, TellsOf, DoesTelling, TellsInHand}
use Rattle.setl_machine_control.specs.Answers.{next_of, Quiet}
use Rattle.setl_machine_control.specs.Working.{WorksBy, DoesBy}
use Rattle.setl_machine.specs.Working.{HasParameters, TakesArguments, TakesLine}
use Rattle.setl_machine_control.specs.declared.end.End.{End}
use Rattle.setl_machine_control.specs.declared.end.End.TheVariants.{Paused}
use Rattle.setl_machine.proofs.Staying.{after_store, after_alter}

-- ---- stores

pub store_noticed : (line : ℕ) (x : Variable) (k : CodeCore) → map noticed (store_told line x k) ≡ store_notices line (told_name x) (value_held (held x k))
store_noticed line (Global name) k = refl
store_noticed line (Own body name) k = refl
store_noticed line (Bound former name) k = refl

same_own : (n : ℕ) (b : Option Body) → variables_by n b ≡ own_slots n b
same_own n None = refl
same_own n (Some b) = refl

-- the variable of a slot
pub slot_variable : (c : Code) (n : ℕ) (x : Slot) → plain_slot (variables_in c n) x ≡ variable_of c n x
slot_variable c n (slot.Global k) = refl
slot_variable c n (slot.Own k) = ap (λ xs. plain_slot (record { global = c.vars; own = xs }) (slot.Own k)) (same_own n (slice_get c.bodies n))

-- what is told of it
pub stored_noticed : (s : Standing) (line : ℕ) (x : Slot) (v : Option Datum) → variables s.core ≡ variables_in (plain_code s.code) s.core.now.body → v ≡ value_held (held (plain_slot (variables s.core) x) s.core) →
    store_notices line (told_name (variable_of (plain_code s.code) s.core.now.body x)) v ≡ map noticed (store_told line (plain_slot (variables_in (plain_code s.code) s.core.now.body) x) s.core)
stored_noticed s line x v vars is =
    let y = plain_slot (variables_in (plain_code s.code) s.core.now.body) x in
    ap (λ z. store_notices line (told_name z) v) (sym (slot_variable (plain_code s.code) s.core.now.body x))
    ∙ ap (store_notices line (told_name y)) (is ∙ ap (λ vs. value_held (held (plain_slot vs x) s.core)) vars)
    ∙ sym (store_noticed line y s.core)

pub told_in_world : (line : ℕ) (x : Variable) (w : World) (k : CodeCore) → store_told line x (in_world w k) ≡ store_told line x k
told_in_world line (Global name) w k = refl
told_in_world line (Own body name) w k = refl
told_in_world line (Bound former name) w k = refl

pub held_here : (x : Variable) (w : World) (k : CodeCore) → held x (in_world w k) ≡ held x k
held_here (Global name) w k = refl
held_here (Own body name) w k = refl
held_here (Bound former name) w k = refl

-- the variables in hand are those of the body's number
abbrev pub InBody : Standing → Type 0
InBody s = variables s.core ≡ variables_in (plain_code s.code) s.core.now.body

-- where the same body of the same code is at work, they are the same
pub same_body : (old new : Standing) → new.code ≡ old.code → new.core.now.body ≡ old.core.now.body → InBody old → variables_in (plain_code new.code) new.core.now.body ≡ variables old.core
same_body old new c b h = (λ i. variables_in (plain_code (c i)) (b i)) ∙ sym h

abbrev HasIn : Variables → Slot → Type 0
HasIn xs x = HasSlot (length xs.global) (length xs.own) x

slot_in : (k : CodeCore) (x : Slot) → HasSlot (length k.globals) (length k.now.own) x → HasIn (variables k) x
slot_in k (slot.Global n) h = omega (arith, h, length-map k.globals (λ c. c.0))
slot_in k (slot.Own n) h = omega (arith, h, length-map k.now.own (λ c. c.0))

slot_out : (k : CodeCore) (x : Slot) → HasIn (variables k) x → HasSlot (length k.globals) (length k.now.own) x
slot_out k (slot.Global n) h = omega (arith, h, length-map k.globals (λ c. c.0))
slot_out k (slot.Own n) h = omega (arith, h, length-map k.now.own (λ c. c.0))

-- the slot is still there
pub slot_stays : (old new : Standing) (x : Slot) → new.code ≡ old.code → new.core.now.body ≡ old.core.now.body → InBody old → HasSlot (length old.core.globals) (length old.core.now.own) x → HasIn (variables_in (plain_code new.code) new.core.now.body) x
slot_stays old new x c b vars h = subst (λ xs. HasIn xs x) (sym (same_body old new c b vars)) (slot_in old.core x h)

pub slot_of_body : (s : Standing) (x : Slot) → InBody s → HasIn (variables_in (plain_code s.code) s.core.now.body) x → HasSlot (length s.core.globals) (length s.core.now.own) x
slot_of_body s x vars h = slot_out s.core x (subst (λ xs. HasIn xs x) (sym vars) h)

-- the events of a store that was done
pub tells_store : (old new : Standing) (from to : ControlState) (line : ℕ) (x : Slot) (events : List Event) → new.code ≡ old.code → new.core.now.body ≡ old.core.now.body → InBody old → map notice_of events ≡ map noticed (store_told line (plain_slot (variables_in (plain_code new.code) new.core.now.body) x) new.core) → (rest rest' : List ℕ) →
    map notice_of events ≡ map noticed (store_told line (plain_slot (variables old.core) x) (stood_for new.core to rest'))
tells_store old new from to line x events c b vars e rest rest' =
    e
    ∙ ap (λ xs. map noticed (store_told line (plain_slot xs x) new.core)) (same_body old new c b vars)
    ∙ ap (map noticed) (sym (told_in_world line (plain_slot (variables old.core) x) _ new.core))

-- ---- updates

pub alter_noticed : (line : ℕ) (a : Alteration) (x : Variable) (whole : Option Datum) (at : List Selected) (k d : CodeCore) → alter_told a line x whole at k d ≡ cond (stores_new a whole at k.world.left) (store_told line x d) []
alter_noticed line Putting x whole at k d = refl
alter_noticed line (Combining o) x whole at k d = refl
alter_noticed line (TakingOut t) x whole at k d = go (none_taken t (part_at_all at whole k.world.left))
  where
    go : (b : Bool) → cond b [] (store_told line x d) ≡ cond (cond b false true) (store_told line x d) []
    go true = refl
    go false = refl

-- the code and the body at work are the same
abbrev pub Stayed : Standing → Standing → Type 0
Stayed old new = (new.code ≡ old.code) × (new.core.now.body ≡ old.core.now.body)

pub stayed_store : (modes : Modes) (old new : Standing) (line : ℕ) (x : Variable) (e : End) → WorksBy modes old line (StoreIn x) new e → e ≡ Paused → Stayed old new
stayed_store modes old new line x e h p =
    (h.0, after_store modes (plain_code old.code) line x (in_world no_world old.core) (in_world no_world new.core) (subst (λ e. Quiet modes (next_of modes (plain_code old.code) line (StoreIn x) (in_world no_world old.core)) (in_world no_world new.core) e) p (h.1 no_world)))

pub stayed_alter : (modes : Modes) (old new : Standing) (from to : ControlState) (line : ℕ) (a : Alteration) (x : Variable) (bs : List Bracket) (e : End) → DoesBy modes old from line (Alter a x bs) new to e → e ≡ Paused → Stayed old new
stayed_alter modes old new from to line a x bs e h p =
    (h.0, after_alter modes (plain_code old.code) line a x bs (stood_for old.core from []) (stood_for new.core to []) (subst (λ e. Quiet modes (next_of modes (plain_code old.code) line (Alter a x bs) (stood_for old.core from [])) (stood_for new.core to []) e) p (h.1 [])))

pub in_body : (s : Standing) (n : ℕ) → n ≡ s.core.now.body → variables s.core ≡ variables_in (plain_code s.code) n → InBody s
in_body s n e h = h ∙ ap (variables_in (plain_code s.code)) e

-- whether an update stores, by what it had popped
abbrev pub StoresNew : Alteration → Variable → List Bracket → Standing → ControlState → Bool → Type 0
StoresNew a x bs s from b = b ≡ stores_new a (value_held (held x s.core)) (selected_by bs (popped_values (popped (length bs) [] s.core.now.operands))) from.turns

pub tells_alter : (old new : Standing) (from to : ControlState) (line : ℕ) (a : Alteration) (x : Variable) (bs : List Bracket) (stored : Bool) (events : List Event) → StoresNew a x bs old from stored →
    ((rest rest' : List ℕ) → map notice_of events ≡ map noticed (cond stored (store_told line x (stood_for new.core to rest')) [])) → (rest rest' : List ℕ) → Tells (plain_code old.code) line (Alter a x bs) (stood_for old.core from rest) (stood_for new.core to rest') events
tells_alter old new from to line a x bs stored events is e rest rest' =
    let k = stood_for old.core from rest in
    let d = stood_for new.core to rest' in
    let at = selected_by bs (popped_values (popped (length bs) [] old.core.now.operands)) in
    e rest rest'
    ∙ ap (λ b. map noticed (cond b (store_told line x d) [])) (is ∙ ap (λ h. stores_new a (value_held h) at from.turns) (sym (held_here x _ old.core)))
    ∙ ap (map noticed) (sym (alter_noticed line a x (value_held (held x k)) at k d))

-- ---- calls

call_noticed : (n line : ℕ) (b : Option Body) (k : CodeCore) (vs : List (Option Datum)) (ys : List Operand) → HasParameters b (Some (length vs)) → popped (length vs) [] k.now.operands ≡ Pops vs ys → call_notices n b line vs ≡ map noticed (call_told n b line k)
call_noticed n line None k vs ys h e = refl
call_noticed n line (Some b) k vs ys h e = ap (λ us. call_notices n (Some b) line us) (sym (ap popped_values (ap (λ j. popped j [] k.now.operands) h ∙ e)))

pub tells_call : (old mid new : Standing) (from to : ControlState) (n line : ℕ) (vs : List (Option Datum)) (events : List Event) → TakesArguments n old (Some vs) mid → new.code ≡ old.code → map notice_of events ≡ call_notices n (slice_get (plain_code new.code).bodies n) line vs → (rest rest' : List ℕ) →
    Tells (plain_code old.code) line (CallBody n) (stood_for old.core from rest) (stood_for new.core to rest') events
tells_call old mid new from to n line vs events t c e rest rest' =
    e
    ∙ ap (λ d. call_notices n (slice_get (plain_code d).bodies n) line vs) c
    ∙ call_noticed n line (slice_get (plain_code old.code).bodies n) (stood_for old.core from rest) vs mid.core.now.operands t.1 t.2

-- ---- prints

-- a list without its last member
pub without : (xs rest : List ℕ) (x : ℕ) → xs ≡ rest ++ x ∷ [] → without_last xs ≡ rest
without xs [] x e = ap without_last e
without xs (y ∷ []) x e = ap without_last e
without xs (y ∷ z ∷ rest) x e = ap without_last e ∙ ap (λ ys. y ∷ ys) (without (z ∷ rest ++ x ∷ []) (z ∷ rest) x refl)

pub tells_print : (old mid new : Standing) (from to : ControlState) (line n : ℕ) (bytes : Vec ℕ) (events : List Event) → TakesLine n old (Ok bytes) mid → map notice_of events ≡ PrintNotice (without_last bytes.items) ∷ [] → (rest rest' : List ℕ) →
    Tells (plain_code old.code) line (PrintTop n) (stood_for old.core from rest) (stood_for new.core to rest') events
tells_print old mid new from to line n bytes events t e rest rest' =
    e
    ∙ ap (λ bs. PrintNotice (without_last bs) ∷ []) ((t.1).2)
    ∙ sym (ap (λ p. PrintNotice (without_last (print_line (popped_values p))) ∷ []) (t.1).1)

-- ---- what a call gives

-- an instruction went on
pub telling_on : (modes : Modes) (old new : Standing) (from to : ControlState) (line : ℕ) (i : Instr) (e : End) (r : Result (Vec Event) End) (events : Vec Event) → e ≡ Paused → r ≡ Ok events → ((rest : List ℕ) → Quiet modes (next_of modes (plain_code old.code) line i (stood_for old.core from rest)) (stood_for new.core to rest) e) → new.code ≡ old.code →
    ((rest rest' : List ℕ) → Tells (plain_code old.code) line i (stood_for old.core from rest) (stood_for new.core to rest') events.items) → DoesTelling modes old from line i new to r
telling_on modes old new from to line i e r events p q quiet code tells =
    subst (λ r. DoesTelling modes old from line i new to r) (sym q) (subst (λ e. (rest : List ℕ) → Quiet modes (next_of modes (plain_code old.code) line i (stood_for old.core from rest)) (stood_for new.core to rest) e) p quiet, (code, tells))

-- or it ended the run
pub telling_ends : (modes : Modes) (old new : Standing) (from to : ControlState) (line : ℕ) (i : Instr) (e : End) (r : Result (Vec Event) End) → (e ≡ Paused → ⊥) → r ≡ Err e → ((rest : List ℕ) → Quiet modes (next_of modes (plain_code old.code) line i (stood_for old.core from rest)) (stood_for new.core to rest) e) → DoesTelling modes old from line i new to r
telling_ends modes old new from to line i e r ne q quiet = subst (λ r. DoesTelling modes old from line i new to r) (sym q) (quiet, ne)

pub tells_code : (old new : Standing) (from to : ControlState) (line : ℕ) (i : Instr) (r : Result (Vec Event) End) → TellsOf old from line i new to r → OnOk r (new.code ≡ old.code)
tells_code old new from to line i (Ok events) t = t.0
tells_code old new from to line i (Err e) t = tt

pub tells_ends : (old new : Standing) (from to : ControlState) (line : ℕ) (i : Instr) (r : Result (Vec Event) End) → TellsOf old from line i new to r → IfErr r (λ e. e ≡ Paused → ⊥)
tells_ends old new from to line i (Ok events) t = tt
tells_ends old new from to line i (Err e) t = t

pub on_ok : {T E P : Type 0} (r : Result T E) → P → OnOk r P
on_ok (Ok x) p = p
on_ok (Err e) p = tt

-- the step in hand is one
pub tells_here : (old new : Standing) (from to : ControlState) (line : ℕ) (i : Instr) (r : Result (Vec Event) End) → fetch (plain_code old.code) old.core.now.body old.core.now.at ≡ Some (line, i) → TellsOf old from line i new to r → TellsInHand old from new to r
tells_here old new from to line i r here t = λ line' i' f.
    let both : Some (line, i) ≡ Some (line', i') = sym here ∙ f in
    let same : ◌≡◌ {A = Step} (line, i) (line', i') = cc in
    subst (λ (s : Step). TellsOf old from s.0 s.1 new to r) same t
