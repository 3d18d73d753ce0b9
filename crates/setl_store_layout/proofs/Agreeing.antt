-- The text of a value by its mode knows of bases only the members of those that the mode names.
use Rattle.std.proofs.Common.{◌≡◌, ℕ, true, ◌==◌, List, [], ◌∷◌, ◌++◌, map, codes, decimal, Option, Some, None, refl, ap, eq-eqb}
use Rattle.std.proofs.lemmas.Bool.{or_left, or_right}
use Rattle.setl_value.specs.Datum.{Datum, set, tuple, element_list, part_list, set_of}
use Rattle.setl_text.specs.Texts.{spaced}
use Rattle.setl_modes.specs.declared.mode.Form.{Form}
use Rattle.setl_modes.specs.Modes.{Mode, General, Integers, Strings, Booleans, Atoms, Elements, Sets, Tuples, SingleMaps, MultiMaps}
use Rattle.setl_modes_dump.specs.Dump.{Bases, block_number, component, listed, map_text, only_text, part_text, set_text, variable_line}
use Rattle.setl_modes_places.specs.Places.{names}

module _ (bs cs : Bases) where
  -- they have the same members of the bases that the mode names
  abbrev pub Agree : Mode → Type 0
  Agree m = (b : ℕ) → names b m ≡ true → bs b ≡ cs b

  tuples : (m : Mode) (d : Datum) → Agree (Tuples m) → part_text bs (Tuples m) d ≡ part_text cs (Tuples m) d
  tuples (Elements b m) (tuple ps) h = ap (λ l. spaced (codes "tuple" ∷ listed (map (component l) (part_list ps)))) (h b (eq-eqb b b refl))
  tuples m d h = refl

  sets : (f : Form) (m : Mode) (d : Datum) → Agree (Sets f m) → part_text bs (Sets f m) d ≡ part_text cs (Sets f m) d
  sets f (Elements b m) (set ms) h = ap (λ l. set_text f l (element_list ms)) (h b (eq-eqb b b refl))
  sets f m d h = refl

  single_maps : (f : Form) (m r : Mode) (d : Datum) → Agree (SingleMaps f m r) → part_text bs r ≡ part_text cs r → part_text bs (SingleMaps f m r) d ≡ part_text cs (SingleMaps f m r) d
  single_maps f (Elements b m) r (set ms) h range =
      let same = h b (or_left (b == b) (names b r) (eq-eqb b b refl)) in λ i. map_text f (only_text (range i)) (same i) (element_list ms)
  single_maps f m r d h range = refl

  multi_maps : (f : Form) (m s : Mode) (d : Datum) → Agree (MultiMaps f m s) → part_text bs s ≡ part_text cs s → part_text bs (MultiMaps f m s) d ≡ part_text cs (MultiMaps f m s) d
  multi_maps f (Elements b m) s (set ms) h images =
      let same = h b (or_left (b == b) (names b s) (eq-eqb b b refl)) in λ i. map_text f (λ ys. images i (set_of ys)) (same i) (element_list ms)
  multi_maps f m s d h images = refl

  parts_agree : (m : Mode) (d : Datum) → Agree m → part_text bs m d ≡ part_text cs m d
  parts_agree General d h = refl
  parts_agree Integers d h = refl
  parts_agree Strings d h = refl
  parts_agree Booleans d h = refl
  parts_agree Atoms d h = refl
  parts_agree (Elements b m) d h = ap (λ l. spaced (codes "elmt" ∷ decimal (block_number d l) ∷ [])) (h b (eq-eqb b b refl))
  parts_agree (Sets f m) d h = sets f m d h
  parts_agree (Tuples m) d h = tuples m d h
  parts_agree (SingleMaps f m r) d h = single_maps f m r d h (λ i e. parts_agree r e (λ b n. h b (or_right (names b m) (names b r) n)) i)
  parts_agree (MultiMaps f m s) d h = multi_maps f m s d h (λ i e. parts_agree s e (λ b n. h b (or_right (names b m) (names b s) n)) i)

  pub lines_agree : (name : List ℕ) (m : Mode) (v : Option Datum) → Agree m → variable_line bs name m v ≡ variable_line cs name m v
  lines_agree name m None h = refl
  lines_agree name m (Some d) h = ap (λ t. spaced (name ∷ t ∷ []) ++ 10 ∷ []) (parts_agree m d h)
