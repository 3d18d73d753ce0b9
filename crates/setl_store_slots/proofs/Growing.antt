-- Bases that only grew.
use Rattle.std.proofs.Common.{◌≡◌, refl, ap, sym, ◌∙◌, subst, List, Option, None, Some}
use Rattle.std.specs.Option.{option_map, option_map_or}
use Rattle.setl_value.specs.Datum.{Datum}
use Rattle.setl_base.specs.Base.{empty}
use Rattle.setl_modes.specs.Modes.{Mode}
use Rattle.setl_rep_bases.specs.declared.tables.Instance.{Instance}
use Rattle.setl_rep_bases.specs.Bases.{BasesState, instance_at}
use Rattle.setl_rep_entering.specs.Entering.{AreLengthened, lengthened_by, places_in}
use Rattle.setl_rep_entering.specs.Laws.{BlocksAreKept}
use Rattle.setl_store_slots.specs.Updates.{AreGrown}

pub same_grown : (bs cs : BasesState) → cs ≡ bs → AreGrown bs cs
same_grown bs cs e = subst (AreGrown bs) (sym e) (record { kept = record { there = λ i t. t; members = λ i n m s. s }; uncut = λ i. refl })

cuts_stay : (ds : List Datum) (o : Option Instance) → (option_map_or (λ (x : Instance). x.base) (option_map (lengthened_by ds) o) empty).cuts ≡ (option_map_or (λ (x : Instance). x.base) o empty).cuts
cuts_stay ds None = refl
cuts_stay ds (Some x) = refl

pub lengthened_grown : BlocksAreKept → (m : Mode) (d : Datum) (bs cs : BasesState) → AreLengthened m d 0 bs cs → AreGrown bs cs
lengthened_grown kept m d bs cs l = record {
  kept = kept m d 0 bs cs l;
  uncut = λ i. ap (λ o. (option_map_or (λ (x : Instance). x.base) o empty).cuts) (l.instances i) ∙ cuts_stay (places_in bs 0 m d i) (instance_at bs i);
}
