-- The store over bases that grew.
use Rattle.std.proofs.Common.{◌≡◌, ◌∙◌, ℕ, List, reverse, refl, sym, ap, subst, arith, Bool, true, false, Option, Some, None}
use Rattle.std.specs.Prelude.{Result, Ok, Err, IfOk, OnOk, OnErr}
use Rattle.std.specs.declared.alloc.AllocError.{AllocError}
use Rattle.setl_value.specs.Datum.{Datum}
use Rattle.setl_modes.specs.Modes.{Mode}
use Rattle.setl_operators_table.specs.Outcome.{Outcome}
use Rattle.setl_code.specs.declared.code.Code.{Code}
use Rattle.setl_code.specs.declared.code.Slot.{Slot}
use Rattle.setl_code.specs.CodeCore as core
use Rattle.setl_code.specs.CodeCore.{There, write}
use Rattle.setl_code.specs.MayRun.{MayRun}
use Rattle.setl_code.specs.Plain.{plain_code, plain_slot}
use Rattle.setl_rep_bases.specs.Bases.{BasesState}
use Rattle.setl_rep_bases.specs.Cutting.{GrownBasesAreCutAlike}
use Rattle.setl_rep_updates.specs.InForm.{FormsOfMainStay}
use Rattle.setl_store_kept.specs.Keeping.{kept_same}
use Rattle.setl_store_slots.specs.Slots.{content_of}
use Rattle.setl_store_slots.specs.Updates.{AreGrown, IsGiven}
use Rattle.setl_store_slots.specs.declared.cells.Held.{Held}
use Rattle.setl_store_slots.specs.declared.cells.Held.TheVariants as held
use Rattle.setl_store_operands.specs.Laws.{OperandsStay}
use Rattle.setl_store.specs.declared.cells.Kept.{Kept}
use Rattle.setl_store.specs.Flat.{Here, AllGot, cells, held_of, activation, callers, marks_in, copy_of, core_of, bases_of, stands, place_in, IsSound, WasSound, AllSound}
use Rattle.setl_store.specs.Forms.{UpdatesFreely}
use Rattle.setl_store.specs.Gained.{with_part}
use Rattle.setl_store.specs.Putting.{HaveGained, IsPut, IsPutAgain, IsUpdatedAt}
use Rattle.setl_store.specs.Standing.{Standing, no_world, variables, Becomes}
use Rattle.setl_store.proofs.Keeping.{reads_blocks}
use Rattle.setl_store.proofs.OperandLists.{Changed}
use Rattle.setl_store.proofs.Slots.{Has, slot_at, slot_again, slot_stored}
use Rattle.setl_store.proofs.StandingSlots.{slots_stay, there_by_content}

-- what holds of a store always
abbrev Holds : Code → BasesState → ℕ → Here → List (Here × Kept) → Type 0
Holds code bs keeps e kept = MayRun code × IsSound (plain_code code) bs e × AllSound (plain_code code) bs keeps e.slots kept

-- all variables and operands are as before
pub grown : FormsOfMainStay → OperandsStay → GrownBasesAreCutAlike → (code : Code) (bs cs : BasesState) (keeps at : ℕ) (e : Here) (kept : List (Here × Kept)) (s : Standing) →
    Holds code bs keeps e kept → stands code bs at e kept ≡ s → AreGrown bs cs → (stands code cs at e kept ≡ record s { bases = bases_of cs kept }) × Holds code cs keeps e kept
grown stay too alike code bs cs keeps at e kept s h is more =
    let c = plain_code code in
    let slots = slots_stay stay bs cs e.slots more.kept h.2.standing in
    let operands = too bs cs e.members e.operands more.kept h.1.operands in
    let ks = kept_same marks_in (copy_of c) (WasSound c) alike (reads_blocks stay too c) bs cs kept more.kept h.2.older in
    let to : core_of c cs at e kept ≡ core_of c bs at e kept =
    λ i. record {
      globals = cells c.vars (slots.same i);
      now = activation c at (reverse e.activations) (slots.same i) (operands.0 i);
      callers = callers c (reverse e.activations) (slots.same i) (operands.0 i);
      kept = ks.same i;
      world = no_world;
    } in (
      (λ i. record { code = code; core = to i; bases = bases_of cs kept }) ∙ ap (λ (t : Standing). record t { bases = bases_of cs kept }) is,
      (
        h.0,
        record { some = h.1.some; shaped = h.1.shaped; members = h.1.members; got = subst AllGot (sym operands.0) h.1.got; operands = operands.1 },
        record { standing = slots.stand; older = ks.still; cuts = λ i. (omega (arith, h.2.cuts i, more.uncut i)); few = h.2.few },
      ),
    )

-- the bases that are told have gained what a variable has now
told_gain : (m : Mode) (code : Code) (bs cs : BasesState) (at : ℕ) (e : Here) (kept : List (Here × Kept)) (s : Standing) (v : Option Datum) → stands code bs at e kept ≡ s → HaveGained m bs cs v → bases_of cs kept ≡ with_part m v s.bases
told_gain m code bs cs at e kept s v is gain = gain kept ∙ ap (λ (t : Standing). with_part m v t.bases) is

-- a variable has this value now
pub put_grown : FormsOfMainStay → OperandsStay → GrownBasesAreCutAlike → (m : Mode) (code : Code) (bs cs : BasesState) (keeps at : ℕ) (e e' : Here) (kept kept' : List (Here × Kept)) (s : Standing) (x : Slot) (n : ℕ) (v : Option Datum) →
    Holds code bs keeps e kept → stands code bs at e kept ≡ s → Has s.core x → n ≡ place_in (reverse e.activations) x → AreGrown bs cs → HaveGained m bs cs v → IsPut cs n (Some v) e e' → kept' ≡ kept →
    Changed code cs keeps at e' kept' (record s { bases = with_part m v s.bases }) (write (plain_slot (variables s.core) x) (There v) s.core)
put_grown stay too alike m code bs cs keeps at e e' kept kept' s x n v h is has place more gain p same =
    let g = grown stay too alike code bs cs keeps at e kept s h is more in
    let to = slot_stored code cs keeps at e e' kept kept' (record s { bases = bases_of cs kept }) x n p.slot (There v) g.1 g.0 has place p.standing p.put same (there_by_content cs p.slot v p.value) in
    subst (λ bases. Changed code cs keeps at e' kept' (record s { bases = bases }) (write (plain_slot (variables s.core) x) (There v) s.core)) (told_gain m code bs cs at e kept s v is gain) to

-- it has it, or want of memory left all as before
pub assigned : {V E : Type 0} → FormsOfMainStay → OperandsStay → GrownBasesAreCutAlike → (m : Mode) (code : Code) (bs cs : BasesState) (keeps at : ℕ) (e e' : Here) (kept kept' : List (Here × Kept)) (s : Standing) (x : Slot) (n : ℕ) (v : Option Datum) (r : Result V E) →
    Holds code bs keeps e kept → stands code bs at e kept ≡ s → Has s.core x → n ≡ place_in (reverse e.activations) x → AreGrown bs cs → OnOk r (HaveGained m bs cs v) → OnOk r (IsPut cs n (Some v) e e') → OnErr r ((cs ≡ bs) × (e' ≡ e)) → kept' ≡ kept →
    Becomes r s (stands code cs at e' kept') (record s { core = write (plain_slot (variables s.core) x) (There v) s.core; bases = with_part m v s.bases }) × Holds code cs keeps e' kept'
assigned stay too alike m code bs cs keeps at e e' kept kept' s x n v (Ok u) h is has place more gain p refused same =
    let to = put_grown stay too alike m code bs cs keeps at e e' kept kept' s x n v h is has place more gain p same in
    (to.stands, to.holds)
assigned stay too alike m code bs cs keeps at e e' kept kept' s x n v (Err u) h is has place more gain p refused same =
    let g = grown stay too alike code bs cs keeps at e kept s h is more in (
      (λ i. stands code (refused.0 i) at (refused.1 i) (same i)) ∙ is,
      subst (λ (q : Here × List (Here × Kept)). Holds code cs keeps q.0 q.1) (λ i. (sym refused.1 i, sym same i)) g.1,
    )

-- ---- what a slot holds is told by its value

abbrev held_by_content : Option (Option Datum) → core.Held
held_by_content None = core.Gone
held_by_content (Some v) = There v

by_content : (bs : BasesState) (h : Held) → held_of bs h ≡ held_by_content (content_of bs h)
by_content bs held.Om = refl
by_content bs (held.Value v) = refl
by_content bs held.Taken = refl
by_content bs (held.Based m f) = refl

same_held : (bs cs : BasesState) (h g : Held) → content_of cs g ≡ content_of bs h → held_of cs g ≡ held_of bs h
same_held bs cs h g e = by_content cs g ∙ ap held_by_content e ∙ sym (by_content bs h)

-- ---- updates

pub record SlotUpdated (gives : Option Datum → ℕ → Outcome) (m : Mode) (code : Code) (cs : BasesState) (keeps at : ℕ) (e' : Here) (kept' : List (Here × Kept)) (s : Standing) (x : Slot) (r : Result Bool AllocError) : Type 0 where
  pub holds : Holds code cs keeps e' kept'
  pub done : IfOk r (UpdatesFreely gives m (plain_slot (variables s.core) x) s (stands code cs at e' kept'))
  pub refused : OnErr r (stands code cs at e' kept' ≡ s)

pub update_grown : FormsOfMainStay → OperandsStay → GrownBasesAreCutAlike → (gives : Option Datum → ℕ → Outcome) (m : Mode) (code : Code) (bs cs : BasesState) (keeps at : ℕ) (e e' : Here) (kept kept' : List (Here × Kept)) (s : Standing) (x : Slot) (n : ℕ) (r : Result Bool AllocError) →
    Holds code bs keeps e kept → stands code bs at e kept ≡ s → Has s.core x → n ≡ place_in (reverse e.activations) x → IsUpdatedAt gives m bs cs n e e' r → kept' ≡ kept →
    SlotUpdated gives m code cs keeps at e' kept' s x r
update_grown stay too alike gives m code bs cs keeps at e e' kept kept' s x n r h is has place u same = by r u.update.done u.gained u.update.nothing u.update.refused
  where
    now : Standing
    now = record s { bases = bases_of cs kept }

    g : (stands code cs at e kept ≡ now) × Holds code cs keeps e kept
    g = grown stay too alike code bs cs keeps at e kept s h is u.update.grown

    changed : (v : core.Held) → held_of cs u.after ≡ v → Changed code cs keeps at e' kept' now (write (plain_slot (variables s.core) x) v s.core)
    changed v = slot_stored code cs keeps at e e' kept kept' now x n u.after v g.1 g.0 has place u.update.standing u.put same

    -- it holds what it held, over the same bases
    as_before : cs ≡ bs → content_of cs u.after ≡ content_of bs u.before → stands code cs at e' kept' ≡ s
    as_before uncut told =
        let core_same = slot_again code bs keeps at e kept s x n u.before (held_of bs u.before) h is has place u.was refl in
        let bases_same : bases_of cs kept ≡ s.bases = ap (λ ds. bases_of ds kept) uncut ∙ ap (λ (t : Standing). t.bases) is in
        (changed (held_of bs u.before) (same_held bs cs u.before u.after told)).stands ∙ (λ i. record s { core = core_same i; bases = bases_same i })

    by : (r : Result Bool AllocError) → IfOk r (λ t. t ≡ true → IsGiven gives (content_of bs u.before) (content_of cs u.after)) → IfOk r (λ t. t ≡ true → (v : Option Datum) → content_of cs u.after ≡ Some v → HaveGained m bs cs v) →
        IfOk r (λ t. t ≡ false → (cs ≡ bs) × (content_of cs u.after ≡ content_of bs u.before)) → OnErr r ((cs ≡ bs) × (content_of cs u.after ≡ content_of bs u.before)) → SlotUpdated gives m code cs keeps at e' kept' s x r
    by (Ok true) d gain m' f =
        let t = d refl in
        let to = changed (There t.after) (there_by_content cs u.after t.after t.is) in
        let bases = told_gain m code bs cs at e kept s t.after is (gain refl t.after t.is) in
        record {
          holds = to.holds;
          done = (
            t.before,
            t.after,
            slot_at code bs keeps at e kept s x n u.before h is has place u.was ∙ there_by_content bs u.before t.before t.was,
            t.formed,
            t.given,
            to.stands ∙ (λ i. record s { core = write (plain_slot (variables s.core) x) (There t.after) s.core; bases = bases i }),
          );
          refused = tt;
        }
    by (Ok false) d gain m' f =
        let t = m' refl in
        record { holds = (changed (held_of cs u.after) refl).holds; done = as_before t.0 t.1; refused = tt }
    by (Err y) d gain m' f = record { holds = (changed (held_of cs u.after) refl).holds; done = tt; refused = as_before f.0 f.1 }

-- what a slot held is there in no form
pub again : (code : Code) (bs : BasesState) (keeps at : ℕ) (e e' : Here) (kept kept' : List (Here × Kept)) (s : Standing) (x : Slot) (n : ℕ) →
    Holds code bs keeps e kept → stands code bs at e kept ≡ s → Has s.core x → n ≡ place_in (reverse e.activations) x → IsPutAgain bs n e e' → kept' ≡ kept →
    (stands code bs at e' kept' ≡ s) × Holds code bs keeps e' kept'
again code bs keeps at e e' kept kept' s x n h is has place p same =
    let to = slot_stored code bs keeps at e e' kept kept' s x n p.again.slot (held_of bs p.slot) h is has place p.again.standing p.again.put same (same_held bs bs p.slot p.again.slot p.again.value) in (
      to.stands ∙ ap (λ k. record s { core = k }) (slot_again code bs keeps at e kept s x n p.slot (held_of bs p.slot) h is has place p.was refl),
      to.holds,
    )
