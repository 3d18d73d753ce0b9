use Rattle.std.proofs.Common.{drop}
use Rattle.std.specs.List.{flat_map}
use Rattle.setl_value.specs.code.Body.{Members}
use Rattle.setl_value.specs.code.DatumOf.{lent}
use Rattle.setl_value.specs.Pairs.{pair_parts}
use Rattle.setl_map.specs.code.Points.{part_at}
use Rattle.setl_modes.specs.Modes.{mode_of}
use Rattle.setl_modes_places.specs.Places.{at_part, elements_at}
use Rattle.setl_rep_entering.specs.code.Finding.{Gains, at_images, at_neighbour}
use Rattle.setl_rep_entering.proofs.Gaining.{IsLeft}
use Rattle.setl_rep_entering.proofs.places.+finding.Given as goal

abbrev pub invariant-in_members-loop-v : goal.invariant-in_members-loop-v
invariant-in_members-loop-v l =
    IsLeft l.a.bases.now l.a.instance (λ b. flat_map (elements_at b (mode_of l.mode)) (Members l.s)) (λ b. flat_map (elements_at b (mode_of l.mode)) l.v-iterator) l.initial.found.items l.found.items

abbrev pub invariant-in_parts-loop-i : goal.invariant-in_parts-loop-i
invariant-in_parts-loop-i l =
    IsLeft l.a.bases.now l.a.instance (λ b. flat_map (at_part (elements_at b (mode_of l.mode))) l.t) (λ b. flat_map (at_part (elements_at b (mode_of l.mode))) (drop l.i l.t)) l.initial.found.items l.found.items

abbrev pub invariant-in_sides-loop-p : goal.invariant-in_sides-loop-p
invariant-in_sides-loop-p l =
    IsLeft l.a.bases.now l.a.instance (λ b. flat_map (λ p. at_part (elements_at b (mode_of l.mode)) (part_at l.first p)) (Members l.f)) (λ b. flat_map (λ p. at_part (elements_at b (mode_of l.mode)) (part_at l.first p)) l.p-iterator)
    l.initial.found.items l.found.items

abbrev pub invariant-in_images-loop-p : goal.invariant-in_images-loop-p
invariant-in_images-loop-p l =
    IsLeft l.a.bases.now l.a.instance (λ b. flat_map (λ p. at_images (elements_at b (mode_of l.mode)) (Members l.f) (pair_parts p)) (Members l.f)) (λ b. flat_map (λ p. at_images (elements_at b (mode_of l.mode)) (Members l.f) (pair_parts p)) l.p-iterator)
    l.initial.found.items l.found.items
    × Gains l.a.bases.now l.a.instance (λ b. at_neighbour (elements_at b (mode_of l.mode)) (Members l.f) (lent l.before)) l.found.items l.found.items
