-- One value is entered into its base, or taken back.
use Rattle.std.proofs.Common.{eq-eqb, eqb-true, ◌≡◌, ◌∙◌, ◌⊎◌, inl, inr, ◌==◌, Bool, true, false, cond, List, [], ◌∷◌, length, Option, None, Some, IsSome, refl, sym, ap}
use Rattle.std.proofs.lemmas.Bool.{false≢true, or_left}
use Rattle.std.specs.Bool.{if◌then◌else◌}
use Rattle.std.specs.List.Sorted.{IsStrictlySortedBy}
use Rattle.std.specs.Option.{option_map, option_map_or}
use Rattle.setl_value.specs.Datum.{Datum}
use Rattle.setl_set.specs.Sets.{set_from}
use Rattle.setl_modes.specs.Modes.{Elements}
use Rattle.setl_base.specs.Base.{BaseState, empty, entered}
use Rattle.setl_rep_bases.specs.declared.BaseId.{BaseId}
use Rattle.setl_rep_bases.specs.declared.tables.Instance.{Instance}
use Rattle.setl_rep_bases.specs.BaseId.{is_id}
use Rattle.setl_rep_bases.specs.Bases.{BasesState, instance_at, base_at, is_gone, named, with_entered}
use Rattle.setl_rep_bases.specs.Reading.{InstancesArePut, NamesAreExact, BasesAgree}
use Rattle.setl_rep_entering.specs.declared.enter.Mark.{Mark}
use Rattle.setl_rep_entering.specs.Entering.{with_values, lengthened_by, is_named, places_in}
use Rattle.setl_rep_entering.specs.Laws.{ElementsAreEntered, EnteredIsUndone}
use Rattle.setl_rep_entering.specs.code.Growing.{is_marked, AreGrown}
use Rattle.setl_rep_entering.proofs.Entered.{entering_appends}
use Rattle.setl_rep_entering.proofs.Lengthened.{nothing_more, places_named}
use Rattle.setl_rep_entering.proofs.Undoing.{grown_first, grown_entered, mark_within, restored}

one_more : (b : BaseState) (d : Datum) → entered b d ≡ with_values b (d ∷ [])
unfolding IsStrictlySortedBy
one_more b d = entering_appends b (d ∷ []) (tt, tt)

pub elements_are_entered : InstancesArePut → NamesAreExact → ElementsAreEntered
elements_are_entered put exact m d n b bs there = record { count = refl; instances = λ i. by i (is_id i j) refl }
  where
    j : BaseId
    j = named bs n b

    x : Instance
    x = record { base = entered (base_at bs j) d; gone = is_gone bs j }

    ds : BaseId → List Datum
    ds i = places_in bs n (Elements b m) d i

    own : ds j ≡ d ∷ []
    own = places_named exact bs n (Elements b m) d b ∙ ap (λ t. set_from (cond t (d ∷ []) [])) (eq-eqb b b refl)

    none : (i : BaseId) → is_id i j ≡ false → ds i ≡ []
    none i out = by (is_named bs n i) refl (b == i.base) refl
      where
        by : (t : Bool) → is_named bs n i ≡ t → (u : Bool) → (b == i.base) ≡ u → (if t then set_from (cond u (d ∷ []) []) else []) ≡ []
        by false e u f = refl
        by true e false f = refl
        by true e true f = absurd (false≢true (sym out ∙ ap (λ k. is_id i (named bs n k)) (eqb-true b i.base f) ∙ e))

    at_own : (o : Option Instance) → IsSome o → Some (record { base = entered (option_map_or (λ y. y.base) o empty) d; gone = option_map_or (λ y. y.gone) o false }) ≡ option_map (lengthened_by (d ∷ [])) o
    at_own None s = absurd (false≢true s)
    at_own (Some y) s = ap (λ c. Some (record y { base = c })) (one_more y.base d)

    at_other : (o : Option Instance) → o ≡ option_map (lengthened_by []) o
    at_other None = refl
    at_other (Some y) = ap (λ c. Some (record y { base = c })) (sym (nothing_more y.base))

    by : (i : BaseId) (t : Bool) → is_id i j ≡ t → instance_at (with_entered bs j d) i ≡ option_map (lengthened_by (ds i)) (instance_at bs i)
    by i true e =
        put bs j x i
        ∙ ap (λ t. if t then Some x else instance_at bs i) e
        ∙ at_own (instance_at bs j) there
        ∙ ap (λ l. option_map (lengthened_by l) (instance_at bs j)) (sym own)
        ∙ ap (λ k. option_map (lengthened_by (ds k)) (instance_at bs k)) (sym ((exact i j).0 e))
    by i false e = put bs j x i ∙ ap (λ t. if t then Some x else instance_at bs i) e ∙ at_other (instance_at bs i) ∙ ap (λ l. option_map (lengthened_by l) (instance_at bs i)) (sym (none i e))

pub entered_is_undone : InstancesArePut → NamesAreExact → BasesAgree → EnteredIsUndone
entered_is_undone put exact agree d bs i there = (mark_within bs cs m refl grown, restored put exact agree bs (m ∷ []) cs ((there, refl), tt) grown (λ j. by j (is_id j i) refl))
  where
    cs : BasesState
    cs = with_entered bs i d

    x : Instance
    x = record { base = entered (base_at bs i) d; gone = is_gone bs i }

    m : Mark
    m = record { base = i; mark = record { count = length (base_at bs i).members } }

    grown : AreGrown bs cs
    grown = grown_entered put exact bs bs i d there (grown_first bs)

    by : (j : BaseId) (t : Bool) → is_id j i ≡ t → (is_marked j (m ∷ []) ≡ true) ⊎ (instance_at cs j ≡ instance_at bs j)
    by j true e = inl (or_left (is_id j i) false e)
    by j false e = inr (put bs i x j ∙ ap (λ t. if t then Some x else instance_at bs j) e)
