-- What `from`, `fromb` and `frome` leave and take.
use Rattle.std.proofs.Common.{List, [], ◌∷◌, Option, Some, None}
use mathlib.Core.List.{reverse_aux}
use Rattle.std.specs.List.{AllByRecursion}
use Rattle.setl_value.specs.Datum.{Datum, bool, int, text, atom, tuple, set, element_list, part_list}
use Rattle.setl_value.specs.WellFormed.{trim}
use Rattle.setl_program.specs.declared.kinds.Taking.TheVariants.{TakeLeast, TakeFirst, TakeLast}
use Rattle.setl_model.specs.Places.{take_least, take_first, take_last}
use Rattle.setl_advise_flows.specs.Flow.{Flow}
use Rattle.setl_advise_flows.specs.Has.{HasPart, Has}
use Rattle.setl_advise_flows.proofs.Lists.{each_onto, each_trim}
use Rattle.setl_advise_flows.proofs.Views.{MemberOf, PartOf, members_of, set_again, member_in, parts_of, tuple_again, part_in}
use Rattle.setl_advise_flows.proofs.Places.{TakenIn, TakesIn}

least : (f : Flow) (ms : _) → Has f (set ms) → (ds : List Datum) → AllByRecursion (MemberOf f) ds → TakenIn f (take_least ds)
least f ms h [] k = tt
least f ms h (d ∷ ds) k = (set_again f ms h ds k.1, member_in f ms h d k.0)

first : (f : Flow) (qs : _) → Has f (tuple qs) → (ps : List (Option Datum)) → AllByRecursion (HasPart (PartOf f)) ps → TakenIn f (take_first ps)
first f qs h [] k = tt
first f qs h (p ∷ ps) k = (tuple_again f qs h (trim ps) (each_trim (PartOf f) ps k.1), part_in f qs h p k.0)

last : (f : Flow) (qs : _) → Has f (tuple qs) → (ps : List (Option Datum)) → AllByRecursion (HasPart (PartOf f)) ps → TakenIn f (take_last ps)
last f qs h [] k = tt
last f qs h (p ∷ ps) k = (tuple_again f qs h (trim (reverse_aux ps [])) (each_trim (PartOf f) (reverse_aux ps []) (each_onto (HasPart (PartOf f)) ps [] k.1 tt)), part_in f qs h p k.0)

pub takes : TakesIn
takes TakeLeast f (Some (set ms)) h = least f ms h (element_list ms) (members_of f ms h)
takes TakeFirst f (Some (tuple ps)) h = first f ps h (part_list ps) (parts_of f ps h)
takes TakeLast f (Some (tuple ps)) h = last f ps h (reverse_aux (part_list ps) []) (each_onto (HasPart (PartOf f)) (part_list ps) [] (parts_of f ps h) tt)
takes TakeLeast f None h = tt
takes TakeLeast f (Some (bool b)) h = tt
takes TakeLeast f (Some (int b)) h = tt
takes TakeLeast f (Some (text b)) h = tt
takes TakeLeast f (Some (atom b)) h = tt
takes TakeLeast f (Some (tuple b)) h = tt
takes TakeFirst f None h = tt
takes TakeFirst f (Some (bool b)) h = tt
takes TakeFirst f (Some (int b)) h = tt
takes TakeFirst f (Some (text b)) h = tt
takes TakeFirst f (Some (atom b)) h = tt
takes TakeFirst f (Some (set b)) h = tt
takes TakeLast f None h = tt
takes TakeLast f (Some (bool b)) h = tt
takes TakeLast f (Some (int b)) h = tt
takes TakeLast f (Some (text b)) h = tt
takes TakeLast f (Some (atom b)) h = tt
takes TakeLast f (Some (set b)) h = tt
