-- Slots that change in their forms.
use Rattle.std.proofs.Common.{◌≡◌, ◌∙◌, ℕ, refl, sym, ap, subst, Bool, true, false, Option, Some, None}
use Rattle.std.specs.Prelude.{Result, Ok, Err, IfOk, slice_get}
use Rattle.std.specs.declared.alloc.AllocError.{AllocError}
use Rattle.std.proofs.lemmas.List.{set-set}
use Rattle.setl_value.specs.Datum.{Datum}
use Rattle.setl_modes.specs.Modes.{Mode, mode_of}
use Rattle.setl_operators_table.specs.Outcome.{Outcome}
use Rattle.setl_rep_bases.specs.Bases.{BasesState}
use Rattle.setl_rep_entering.specs.Laws.{MembersAreLengthened}
use Rattle.setl_store_slots.specs.Slots.{content_of, IsStanding}
use Rattle.setl_store_slots.specs.Updates.{AreGrown, IsOfMode, IsEntered, IsSlotUpdate}
use Rattle.setl_store_slots.specs.declared.cells.Held.{Held}
use Rattle.setl_store_slots.specs.declared.cells.Held.TheVariants as held
use Rattle.setl_store.specs.Flat.{Here, bases_of, with_slot}
use Rattle.setl_store.specs.Gained.{with_places}
use Rattle.setl_store.specs.Putting.{HaveGained, IsPutAgain, IsUpdatedAt}
use Rattle.setl_store.proofs.Gaining.{gained}
use Rattle.setl_store.proofs.Slots.{set_same}

as_is : (bs : BasesState) → AreGrown bs bs
as_is bs = record { kept = record { there = λ i t. t; members = λ i n m s. s }; uncut = λ i. refl }

put_again : (e e' : Here) (at : ℕ) (h : Held) → Some h ≡ slice_get e.slots at → e' ≡ e → e' ≡ with_slot e at h
put_again e e' at h was same = same ∙ ap (λ l. record e { slots = l }) (sym (set_same e.slots at h was))

-- nothing was done
pub untouched : (gives : Option Datum → ℕ → Outcome) (m : Mode) (bs : BasesState) (at : ℕ) (e e' : Here) (h : Held) → Some h ≡ slice_get e.slots at → e' ≡ e → IsStanding bs h → IsUpdatedAt gives m bs bs at e e' (Ok false)
untouched gives m bs at e e' h was same stand = record {
  before = h;
  after = h;
  was = was;
  put = put_again e e' at h was same;
  update = record { standing = stand; grown = as_is bs; done = λ t. absurd (cc); entered = λ t. absurd (cc); nothing = λ t. (refl, refl); refused = tt };
  gained = λ t. absurd (cc);
}

pub refused : (gives : Option Datum → ℕ → Outcome) (m : Mode) (bs : BasesState) (at : ℕ) (e e' : Here) (h : Held) (x : AllocError) → Some h ≡ slice_get e.slots at → e' ≡ e → IsStanding bs h → IsUpdatedAt gives m bs bs at e e' (Err x)
refused gives m bs at e e' h x was same stand = record {
  before = h;
  after = h;
  was = was;
  put = put_again e e' at h was same;
  update = record { standing = stand; grown = as_is bs; done = tt; entered = tt; nothing = tt; refused = (refl, refl) };
  gained = tt;
}

-- a slot that was updated in the form of this mode: the bases have gained what it holds
has_gained : MembersAreLengthened → (gives : Option Datum → ℕ → Outcome) (m : Mode) (bs cs : BasesState) (h g : Held) (r : Result Bool AllocError) → IsOfMode m h → IsSlotUpdate gives bs cs h g r →
    IfOk r (λ t. t ≡ true → (v : Option Datum) → content_of cs g ≡ Some v → HaveGained m bs cs v)
has_gained law gives m bs cs (held.Based own f) g (Ok t) of u = λ e v is. by v (subst (IsEntered bs cs (held.Based own f)) is (u.entered e))
  where
    by : (v : Option Datum) → IsEntered bs cs (held.Based own f) (Some v) → HaveGained m bs cs v
    by None i kept = absurd i
    by (Some d) i kept = subst (λ k. bases_of cs kept ≡ with_places 0 k d (bases_of bs kept)) of (gained law (mode_of own) d bs cs kept i.0 i.1)
has_gained law gives m bs cs (held.Based own f) g (Err x) of u = tt
has_gained law gives m bs cs held.Om g r of u = absurd of
has_gained law gives m bs cs (held.Value v) g r of u = absurd of
has_gained law gives m bs cs held.Taken g r of u = absurd of

-- taken out, updated and put back
pub updated : MembersAreLengthened → (gives : Option Datum → ℕ → Outcome) (m : Mode) (bs cs : BasesState) (at : ℕ) (e e1 e2 e3 : Here) (h g t : Held) (r : Result Bool AllocError) → IsOfMode m h →
    e1 ≡ e → Some h ≡ slice_get e1.slots at → e2 ≡ with_slot e1 at t → e3 ≡ with_slot e2 at g → IsSlotUpdate gives bs cs h g r → IsUpdatedAt gives m bs cs at e e3 r
updated law gives m bs cs at e e1 e2 e3 h g t r of same was out back update = record {
  before = h;
  after = g;
  was = was ∙ ap (λ (x : Here). slice_get x.slots at) same;
  put = back ∙ ap (λ x. with_slot x at g) (out ∙ ap (λ x. with_slot x at t) same) ∙ ap (λ l. record e { slots = l }) (set-set e.slots at t g);
  update = update;
  gained = has_gained law gives m bs cs h g r of update;
}

-- put back in no form, or left
pub left_again : (bs : BasesState) (at : ℕ) (e e' : Here) (h : Held) → Some h ≡ slice_get e.slots at → e' ≡ e → IsStanding bs h → IsPutAgain bs at e e'
left_again bs at e e' h was same stand = record {
  slot = h;
  was = was;
  again = record { slot = h; standing = stand; value = refl; put = put_again e e' at h was same };
}

pub plain_again : (bs : BasesState) (at : ℕ) (e e1 e2 : Here) (h g : Held) → Some h ≡ slice_get e.slots at → e1 ≡ e → e2 ≡ with_slot e1 at g → IsStanding bs g → content_of bs g ≡ content_of bs h → IsPutAgain bs at e e2
plain_again bs at e e1 e2 h g was same to stand is = record {
  slot = h;
  was = was;
  again = record { slot = g; standing = stand; value = is; put = to ∙ ap (λ x. with_slot x at g) same };
}
