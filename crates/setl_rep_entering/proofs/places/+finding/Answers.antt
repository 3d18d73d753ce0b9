use Rattle.std.proofs.Common.{◌≡◌, ◌∙◌, [], ◌∷◌, ◌++◌, ◌+◌, true, None, refl, sym, ap, subst, drop, slice_get, unwrap_or, arith}
use Rattle.std.specs.List.{flat_map}
use Rattle.std.proofs.lemmas.Result.{on_ok_weaker}
use Rattle.setl_value.specs.Datum.{set_of, tuple_of, element_list-elements_of, part_list-parts_of}
use Rattle.setl_value.specs.code.Body.{Members}
use Rattle.setl_value.specs.code.DatumOf.{datum, lent}
use Rattle.setl_value.specs.Pairs.{pair_parts}
use Rattle.setl_map.specs.code.Points.{part_at}
use Rattle.setl_set.specs.Sets.{has_datum}
use Rattle.setl_modes.specs.Modes.{mode_of}
use Rattle.setl_modes_places.specs.Places.{at_part, elements_at}
use Rattle.setl_rep_entering.specs.code.Finding.{at_firsts, at_images, at_map, at_neighbour, at_seconds, is_at_point}
use Rattle.setl_rep_entering.proofs.ModeCodes.{of_set, of_tuple, of_smap, of_mmap}
use Rattle.setl_rep_entering.proofs.Naming.{names_none}
use Rattle.setl_rep_entering.proofs.Gaining.{IsLeft, all_left, less_left, none_left, gains_none, gains_as, gains_again, next_part, gains_then, gains_like, map_places, same_neighbour, nothing_left}
use Rattle.setl_rep_entering.proofs.places.+finding.Goals as goal

pub find_places-returns-then-not-has_places : goal.find_places-returns-then-not-has_places
find_places-returns-then-not-has_places t c =
    gains_none c.args.a.now.bases.now c.args.a.now.instance (λ b. elements_at b (mode_of c.args.mode.now) (datum c.args.v.now)) c.args.found.now.items
    (λ b. c.places_are_named.ensures b (mode_of c.args.mode.now) (datum c.args.v.now) (names_none (mode_of c.args.mode.now) (sym c.has_places.ensures ∙ c.if-not-has_places.true) b))

pub find_places-returns-in-Set-Set : goal.find_places-returns-in-Set-Set
find_places-returns-in-Set-Set t c =
    on_ok_weaker c.in_members.result
    (λ g. gains_as c.args.a.now.bases.now c.args.a.now.instance _ (λ b. elements_at b (mode_of c.args.mode.now) (datum c.args.v.now)) c.args.found.now.items c.in_members.new.found.items
    (λ b. (λ k. flat_map (elements_at b (mode_of (c.get.ensures k))) (sym (element_list-elements_of (Members c.in-Set-Set.s)) k))
    ∙ ap (λ m. elements_at b m (set_of (Members c.in-Set-Set.s))) (sym (of_set c.in-Set-Set.field-0-0 c.in-Set-Set.m))
    ∙ (λ k. elements_at b (mode_of (sym c.in-Set-Set.is-0 k)) (datum (sym c.in-Set-Set.is-1 k)))) g)
    c.in_members.ensures

pub find_places-returns-in-Tuple-Tuple : goal.find_places-returns-in-Tuple-Tuple
find_places-returns-in-Tuple-Tuple t c =
    on_ok_weaker c.in_parts.result
    (λ g. gains_as c.args.a.now.bases.now c.args.a.now.instance _ (λ b. elements_at b (mode_of c.args.mode.now) (datum c.args.v.now)) c.args.found.now.items c.in_parts.new.found.items
    (λ b. (λ k. flat_map (at_part (elements_at b (mode_of (c.get-in-Tuple-Tuple.ensures k)))) (sym (part_list-parts_of c.in-Tuple-Tuple.t) k))
    ∙ ap (λ m. elements_at b m (tuple_of c.in-Tuple-Tuple.t)) (sym (of_tuple c.in-Tuple-Tuple.m))
    ∙ (λ k. elements_at b (mode_of (sym c.in-Tuple-Tuple.is-0 k)) (datum (sym c.in-Tuple-Tuple.is-1 k)))) g)
    c.in_parts.ensures

pub in_members-loop-v-init : goal.in_members-loop-v-init
in_members-loop-v-init t c =
    let bs = c.args.a.now.bases.now in
    let n = c.args.a.now.instance in
    let ms = Members c.args.s.now in
    let m = mode_of c.args.mode.now in
    let all : c.into_iter-v-iterator.result ≡ ms = cc (c.members-v-items.ensures, c.into_iter-v-iterator.ensures.into_iter_gives) in
    subst (λ l. IsLeft bs n (λ b. flat_map (elements_at b m) ms) (λ b. flat_map (elements_at b m) l) c.args.found.now.items c.args.found.now.items) (sym all) (all_left bs n (λ b. flat_map (elements_at b m) ms) c.args.found.now.items)

pub in_members-loop-v-preserved : goal.in_members-loop-v-preserved
in_members-loop-v-preserved t c =
    let bs = c.args.a.now.bases.now in
    let n = c.args.a.now.instance in
    let ms = Members c.args.s.now in
    let m = mode_of c.args.mode.now in
    let d = datum c.in-Some.v.now in
    let rest = c.next.new.self in
    let next : c.loop-v.v-iterator ≡ d ∷ rest = cc c.in-Some.ensures.steps in
    less_left bs n (λ b. flat_map (elements_at b m) ms) (λ b. elements_at b m d) (λ b. flat_map (elements_at b m) rest) c.args.found.now.items c.loop-v.found.items c.find_places.new.found.items c.in_ok-find_places.ensures (subst (λ l. IsLeft bs n (λ b. flat_map (elements_at b m) ms) (λ b. flat_map (elements_at b m) l) c.args.found.now.items c.loop-v.found.items) next c.loop-v.invariant)

pub in_members-returns : goal.in_members-returns
in_members-returns t c =
    let bs = c.args.a.now.bases.now in
    let n = c.args.a.now.instance in
    let ms = Members c.args.s.now in
    let m = mode_of c.args.mode.now in
    let none : c.loop-v.v-iterator ≡ [] = c.in-None.ensures.steps.0 in
    none_left bs n (λ b. flat_map (elements_at b m) ms) (λ b. flat_map (elements_at b m) c.loop-v.v-iterator) c.args.found.now.items c.loop-v.found.items c.loop-v.invariant (λ b. ap (λ l. flat_map (elements_at b m) l) none)

pub in_sides-loop-p-init : goal.in_sides-loop-p-init
in_sides-loop-p-init t c =
    let bs = c.args.a.now.bases.now in
    let n = c.args.a.now.instance in
    let ms = Members c.args.f.now in
    let m = mode_of c.args.mode.now in
    let all : c.into_iter-p-iterator.result ≡ ms = cc (c.members-p-items.ensures, c.into_iter-p-iterator.ensures.into_iter_gives) in
    subst (λ l. IsLeft bs n (λ b. flat_map (λ p. at_part (elements_at b m) (part_at c.args.first p)) ms) (λ b. flat_map (λ p. at_part (elements_at b m) (part_at c.args.first p)) l) c.args.found.now.items c.args.found.now.items) (sym all) (all_left bs n (λ b. flat_map (λ p. at_part (elements_at b m) (part_at c.args.first p)) ms) c.args.found.now.items)

pub in_sides-loop-p-preserved : goal.in_sides-loop-p-preserved
in_sides-loop-p-preserved t c =
    let bs = c.args.a.now.bases.now in
    let n = c.args.a.now.instance in
    let ms = Members c.args.f.now in
    let m = mode_of c.args.mode.now in
    let d = datum c.in-Some.p.now in
    let rest = c.next.new.self in
    let next : c.loop-p.p-iterator ≡ d ∷ rest = cc c.in-Some.ensures.steps in
    less_left bs n (λ b. flat_map (λ p. at_part (elements_at b m) (part_at c.args.first p)) ms) (λ b. at_part (elements_at b m) (part_at c.args.first d)) (λ b. flat_map (λ p. at_part (elements_at b m) (part_at c.args.first p)) rest) c.args.found.now.items c.loop-p.found.items c.in_side.new.found.items c.in_ok-in_side.ensures (subst (λ l. IsLeft bs n (λ b. flat_map (λ p. at_part (elements_at b m) (part_at c.args.first p)) ms) (λ b. flat_map (λ p. at_part (elements_at b m) (part_at c.args.first p)) l) c.args.found.now.items c.loop-p.found.items) next c.loop-p.invariant)

pub in_sides-returns : goal.in_sides-returns
in_sides-returns t c =
    let bs = c.args.a.now.bases.now in
    let n = c.args.a.now.instance in
    let ms = Members c.args.f.now in
    let m = mode_of c.args.mode.now in
    let none : c.loop-p.p-iterator ≡ [] = c.in-None.ensures.steps.0 in
    none_left bs n (λ b. flat_map (λ p. at_part (elements_at b m) (part_at c.args.first p)) ms) (λ b. flat_map (λ p. at_part (elements_at b m) (part_at c.args.first p)) c.loop-p.p-iterator) c.args.found.now.items c.loop-p.found.items c.loop-p.invariant (λ b. ap (λ l. flat_map (λ p. at_part (elements_at b m) (part_at c.args.first p)) l) none)

pub in_images-loop-p-init : goal.in_images-loop-p-init
in_images-loop-p-init t c =
    let bs = c.args.a.now.bases.now in
    let n = c.args.a.now.instance in
    let ms = Members c.args.f.now in
    let m = mode_of c.args.mode.now in
    let all : c.into_iter-p-iterator.result ≡ ms = cc (c.members-p-items.ensures, c.into_iter-p-iterator.ensures.into_iter_gives) in
    (subst (λ l. IsLeft bs n (λ b. flat_map (λ p. at_images (elements_at b m) ms (pair_parts p)) ms) (λ b. flat_map (λ p. at_images (elements_at b m) ms (pair_parts p)) l) c.args.found.now.items c.args.found.now.items) (sym all) (all_left bs n (λ b. flat_map (λ p. at_images (elements_at b m) ms (pair_parts p)) ms) c.args.found.now.items), gains_none bs n (λ b. at_neighbour (elements_at b m) ms None) c.args.found.now.items (λ b. refl))

pub in_images-loop-p-preserved : goal.in_images-loop-p-preserved
in_images-loop-p-preserved t c =
    let bs = c.args.a.now.bases.now in
    let n = c.args.a.now.instance in
    let ms = Members c.args.f.now in
    let m = mode_of c.args.mode.now in
    let d = datum c.in-Some.p.now in
    let rest = c.next.new.self in
    let next : c.loop-p.p-iterator ≡ d ∷ rest = cc c.in-Some.ensures.steps in
    (less_left bs n (λ b. flat_map (λ p. at_images (elements_at b m) ms (pair_parts p)) ms) (λ b. at_images (elements_at b m) ms (pair_parts d)) (λ b. flat_map (λ p. at_images (elements_at b m) ms (pair_parts p)) rest) c.args.found.now.items c.loop-p.found.items c.in_next_images.new.found.items c.in_ok-in_next_images.ensures (subst (λ l. IsLeft bs n (λ b. flat_map (λ p. at_images (elements_at b m) ms (pair_parts p)) ms) (λ b. flat_map (λ p. at_images (elements_at b m) ms (pair_parts p)) l) c.args.found.now.items c.loop-p.found.items) next c.loop-p.invariant.0), gains_again bs n (λ b. at_images (elements_at b m) ms (pair_parts d)) c.loop-p.found.items c.in_next_images.new.found.items c.in_ok-in_next_images.ensures)

pub in_images-returns : goal.in_images-returns
in_images-returns t c =
    let bs = c.args.a.now.bases.now in
    let n = c.args.a.now.instance in
    let ms = Members c.args.f.now in
    let m = mode_of c.args.mode.now in
    let none : c.loop-p.p-iterator ≡ [] = c.in-None.ensures.steps.0 in
    none_left bs n (λ b. flat_map (λ p. at_images (elements_at b m) ms (pair_parts p)) ms) (λ b. flat_map (λ p. at_images (elements_at b m) ms (pair_parts p)) c.loop-p.p-iterator) c.args.found.now.items c.loop-p.found.items c.loop-p.invariant.0 (λ b. ap (λ l. flat_map (λ p. at_images (elements_at b m) ms (pair_parts p)) l) none)

pub in_next_images-returns-then-is_at_point : goal.in_next_images-returns-then-is_at_point
in_next_images-returns-then-is_at_point t c =
    let bs = c.args.a.now.bases.now in
    let n = c.args.a.now.instance in
    let ms = Members c.args.f.now in
    let m = mode_of c.args.mode.now in
    let at : is_at_point (lent c.args.before) (datum c.args.p.now) ≡ true = sym c.is_at_point.ensures ∙ c.if-is_at_point.true in
    gains_as bs n (λ b. at_neighbour (elements_at b m) ms (lent c.args.before)) (λ b. at_images (elements_at b m) ms (pair_parts (datum c.args.p.now))) c.args.found.now.items c.args.found.now.items
    (λ b. same_neighbour (elements_at b m) ms (lent c.args.before) (datum c.args.p.now) at) c.requires.before

pub in_parts-loop-i-preserved : goal.in_parts-loop-i-preserved
in_parts-loop-i-preserved t c =
    let bs = c.args.a.now.bases.now in
    let n = c.args.a.now.instance in
    let m = mode_of c.args.mode.now in
    let t = c.args.t.now in
    let i = c.loop-i.i in
    less_left bs n (λ b. flat_map (at_part (elements_at b m)) t) (λ b. at_part (elements_at b m) (unwrap_or (slice_get t i) None)) (λ b. flat_map (at_part (elements_at b m)) (drop (i + 1) t)) c.args.found.now.items c.loop-i.found.items c.in_part.new.found.items
    c.in_ok-in_part.ensures
    (λ new g. c.loop-i.invariant new (gains_as bs n (λ b. at_part (elements_at b m) (unwrap_or (slice_get t i) None) ++ flat_map (at_part (elements_at b m)) (drop (i + 1) t)) (λ b. flat_map (at_part (elements_at b m)) (drop i t)) c.loop-i.found.items new
    (λ b. sym (next_part (elements_at b m) i t (omega arith))) g))

pub in_parts-returns : goal.in_parts-returns
in_parts-returns t c =
    let bs = c.args.a.now.bases.now in
    let n = c.args.a.now.instance in
    let m = mode_of c.args.mode.now in
    let t = c.args.t.now in
    none_left bs n (λ b. flat_map (at_part (elements_at b m)) t) (λ b. flat_map (at_part (elements_at b m)) (drop c.loop-i.i t)) c.args.found.now.items c.loop-i.found.items c.loop-i.invariant
    (λ b. nothing_left (elements_at b m) c.loop-i.i t (omega arith))

pub find_places-returns-in-Smap-default : goal.find_places-returns-in-Smap-default
find_places-returns-in-Smap-default t c =
    let v = datum c.args.v.now in
    let is = ap mode_of c.in-Smap-default.is-0 ∙ of_smap c.in-Smap-default.field-0-0 c.in-Smap-default.field-1-0 c.in-Smap-default.field-2-0 in
    on_ok_weaker c.in_map.result
    (λ g. gains_like c.args.a.now.bases.now c.args.a.now.instance (λ b. at_map b (mode_of c.args.mode.now) v) (λ b. elements_at b (mode_of c.args.mode.now) v) c.args.found.now.items c.in_map.new.found.items
    (λ b x. subst (λ m. has_datum x (at_map b m v) ≡ has_datum x (elements_at b m v)) (sym is) (map_places c.in-Smap-default.field-0-0 (mode_of c.in-Smap-default.field-1-0) (mode_of c.in-Smap-default.field-2-0) b v x).0) g)
    c.in_map.ensures

pub find_places-returns-in-Mmap-default : goal.find_places-returns-in-Mmap-default
find_places-returns-in-Mmap-default t c =
    let v = datum c.args.v.now in
    let is = ap mode_of c.in-Mmap-default.is-0 ∙ of_mmap c.in-Mmap-default.field-0-0 c.in-Mmap-default.field-1-0 c.in-Mmap-default.field-2-0 in
    on_ok_weaker c.in_map-in-Mmap-default.result
    (λ g. gains_like c.args.a.now.bases.now c.args.a.now.instance (λ b. at_map b (mode_of c.args.mode.now) v) (λ b. elements_at b (mode_of c.args.mode.now) v) c.args.found.now.items c.in_map-in-Mmap-default.new.found.items
    (λ b x. subst (λ m. has_datum x (at_map b m v) ≡ has_datum x (elements_at b m v)) (sym is) (map_places c.in-Mmap-default.field-0-0 (mode_of c.in-Mmap-default.field-1-0) (mode_of c.in-Mmap-default.field-2-0) b v x).1) g)
    c.in_map-in-Mmap-default.ensures

pub in_pairs-returns : goal.in_pairs-returns
in_pairs-returns t c =
    gains_then c.args.a.now.bases.now c.args.a.now.instance (λ b. at_firsts b (mode_of c.args.mode.now) (Members c.args.f.now)) (λ b. at_seconds b (mode_of c.args.mode.now) (Members c.args.f.now)) c.args.found.now.items c.in_firsts.new.found.items c.in_seconds.new.found.items
    c.in_ok-in_firsts.ensures c.in_ok-in_seconds.ensures

pub in_map-returns-in-Set : goal.in_map-returns-in-Set
in_map-returns-in-Set t c =
    let bs = c.args.a.now.bases.now in
    let n = c.args.a.now.instance in
    let m = mode_of c.args.mode.now in
    let ms = Members c.in-Set.f in
    on_ok_weaker c.in_pairs.result
    (λ g. gains_as bs n (λ b. at_firsts b m ms ++ at_seconds b m ms) (λ b. at_map b m (datum c.args.v.now)) c.args.found.now.items c.in_pairs.new.found.items
    (λ b. (λ k. at_firsts b m (sym (element_list-elements_of ms) k) ++ at_seconds b m (sym (element_list-elements_of ms) k)) ∙ (λ k. at_map b m (datum (sym c.in-Set.is k)))) g)
    c.in_pairs.ensures
