-- What was entered is taken back.
use Rattle.std.proofs.Common.{◌≡◌, ◌∙◌, ◌⊎◌, inl, inr, ℕ, Bool, true, false, not, ◌&&◌, List, [], ◌∷◌, ◌++◌, map, length, take, Option, None, Some, refl, sym, ap, subst}
use Rattle.std.specs.List.{filter}
use Rattle.std.specs.Option.{option_map}
use Rattle.setl_value.specs.Datum.{Datum}
use Rattle.setl_set.specs.Sets.{has_datum}
use Rattle.setl_modes.specs.Modes.{Mode}
use Rattle.setl_modes_places.specs.Places.{names, PlacesAreNamed}
use Rattle.setl_base.specs.Base.{Member}
use Rattle.setl_rep_bases.specs.declared.BaseId.{BaseId}
use Rattle.setl_rep_bases.specs.declared.tables.Instance.{Instance}
use Rattle.setl_rep_bases.specs.Bases.{BasesState, instance_at}
use Rattle.setl_rep_bases.specs.Reading.{InstancesArePut, NamesAreExact, BasesAgree}
use Rattle.setl_rep_entering.specs.declared.enter.Mark.{Mark}
use Rattle.setl_rep_entering.specs.Entering.{values_in, lengthened_by, is_named, places_in, AreLengthened}
use Rattle.setl_rep_entering.specs.code.Growing.{is_marked, AreMarksOf, all_undone, IsGrown, AreGrown}
use Rattle.setl_rep_entering.proofs.Lengthened.{others_stay}
use Rattle.setl_rep_entering.proofs.Undoing.{front_length, restored}

take_own : (ms ns : List Member) → take (length ms) (ms ++ ns) ≡ ms
take_own [] ns = refl
take_own (m ∷ ms) ns = ap (λ l. m ∷ l) (take_own ms ns)

grown_by_values : (o : Option Instance) (ds : List Datum) → IsGrown o (option_map (lengthened_by ds) o)
grown_by_values None ds = tt
grown_by_values (Some x) ds =
    let more : List Member = map (λ d. record { value = d; generation = x.base.cuts }) (filter (λ d. not (has_datum d (values_in x.base))) ds) in
    (refl, front_length x.base.members more, ap (λ l. record x.base { members = l }) (take_own x.base.members more))

pub are_grown : (m : Mode) (d : Datum) (n : ℕ) (bs cs : BasesState) → AreLengthened m d n bs cs → AreGrown bs cs
are_grown m d n bs cs l = record {
  count = l.count;
  grown = λ i. subst (IsGrown (instance_at bs i)) (sym (l.instances i)) (grown_by_values (instance_at bs i) (places_in bs n m d i));
}

-- each instance that was lengthened has a mark
pub entered_back : PlacesAreNamed → InstancesArePut → NamesAreExact → BasesAgree → (m : Mode) (d : Datum) (n : ℕ) (bs cs : BasesState) (ms : List Mark) → AreMarksOf bs n m ms → AreLengthened m d n bs cs → all_undone cs ms ≡ bs
entered_back no_places put exact agree m d n bs cs ms k l = restored put exact agree bs ms cs k.marks (are_grown m d n bs cs l) (λ i. by i (is_named bs n i) refl (names i.base m) refl)
  where
    by : (i : BaseId) (t : Bool) → is_named bs n i ≡ t → (u : Bool) → names i.base m ≡ u → (is_marked i ms ≡ true) ⊎ (instance_at cs i ≡ instance_at bs i)
    by i true e true f = inl (k.all i ∙ (λ j. e j && f j))
    by i true e false f = inr ((others_stay no_places m d n bs cs l i).0 f)
    by i false e u f = inr ((others_stay no_places m d n bs cs l i).1 e)
