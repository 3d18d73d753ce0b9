-- Heights of steps are heights of their plain steps.
use Rattle.std.proofs.Common.{◌≡◌, ◌∙◌, ◌<◌, ◌+◌, ℕ, zero, suc, List, [], ◌∷◌, map, length, Option, Some, None, refl, sym, ap, subst, arith}
use Rattle.std.specs.Prelude.{slice_get, slice_index_or, get_or, Result, Ok, Err, IfOk, MatchOption}
use Rattle.std.specs.List.{Contains}
use Rattle.setl_code.specs.declared.code.Instr.{Instr}
use Rattle.setl_code.specs.declared.code.Instr.TheVariants as i
use Rattle.setl_code.specs.declared.code.Step.{Step}
use Rattle.setl_code.specs.Code as plain
use Rattle.setl_code.specs.Plain.{Variables, plain_instr, plain_step}
use Rattle.setl_code.specs.Shapes.{free_successors}
use Rattle.setl_code.specs.Sound.{AllLower, height_at}
use Rattle.setl_live_reads.specs.declared.node.Way.{Way}
use Rattle.setl_live_reads.specs.Paths.{ways}
use Rattle.setl_image_rounds.specs.Falling.{Fall}
use Rattle.setl_image_verify.specs.Turns.{HeightsFall, free_way, free_way_of}

-- ---- lists

-- what stands in a mapped list comes from an item
record Mapped {A B : Type 0} (f : A → B) (xs : List A) (at : ℕ) (y : B) : Type 0 where
  item : A
  is : slice_get xs at ≡ Some item
  gives : f item ≡ y

mapped_from : {A B : Type 0} (f : A → B) (xs : List A) (at : ℕ) (y : B) → slice_get (map f xs) at ≡ Some y → Mapped f xs at y
mapped_from f [] at y h = cc
mapped_from f (x ∷ xs) zero y h = let same : f x ≡ y = cc in record { item = x; is = refl; gives = same }
mapped_from f (x ∷ xs) (suc at) y h = let m = mapped_from f xs at y h in record { item = m.item; is = m.is; gives = m.gives }

mapped_to : {A B : Type 0} (f : A → B) (xs : List A) (at : ℕ) (x : A) → slice_get xs at ≡ Some x → slice_get (map f xs) at ≡ Some (f x)
mapped_to f [] at x h = cc
mapped_to f (y ∷ xs) zero x h = let same : y ≡ x = cc in ap (λ z. Some (f z)) same
mapped_to f (y ∷ xs) (suc at) x h = mapped_to f xs at x h

-- ---- heights

same_height : (hs : List ℕ) (at : ℕ) → height_at hs at ≡ get_or hs at 0
same_height [] at = refl
same_height (h ∷ hs) zero = refl
same_height (h ∷ hs) (suc at) = same_height hs at

all_lower : (hs : List ℕ) (h : ℕ) (tos : List ℕ) → ((to : ℕ) → Contains tos to → get_or hs to 0 < h) → AllLower hs h tos
all_lower hs h [] lower = tt
all_lower hs h (to ∷ tos) lower = (
  subst (λ x. x < h) (sym (same_height hs to)) (lower to (0, omega arith, refl)),
  all_lower hs h tos (λ x is. lower x (suc is.0, omega (arith, is.1), is.2)),
)

lower_at : (hs : List ℕ) (h : ℕ) (tos : List ℕ) (to k : ℕ) → AllLower hs h tos → k < length tos → slice_index_or tos k to ≡ to → get_or hs to 0 < h
lower_at hs h [] to k all less is = absurd (omega (arith, less))
lower_at hs h (x ∷ tos) to zero all less is = subst (λ x. x < h) (same_height hs to) (subst (λ t. height_at hs t < h) is all.0)
lower_at hs h (x ∷ tos) to (suc k) all less is = lower_at hs h tos to k all.1 (omega (arith, less)) is

-- ---- where steps lead without a turn

same_ways : (xs : Variables) (what : Instr) (at : ℕ) → free_successors (plain_instr xs what) at ≡ ways (free_way what) at
same_ways xs what at = go what
  where
    go : (w : Instr) → free_successors (plain_instr xs w) at ≡ ways (free_way w) at
    go (i.Decide k to) = refl
    go (i.Unless to) = refl
    go (i.Next to) = refl
    go (i.Jump to) = refl
    go (i.Call n) = refl
    go i.Round = refl
    go i.NewAtom = refl
    go i.Return = refl
    go i.Back = refl
    go i.Stop = refl
    go w = refl

next_is : (at : ℕ) → suc at ≡ at + 1
next_is at = omega arith

-- the ways of a step are those of its plain step
plain_ways : (xs : Variables) (s : Step) (line : ℕ) (it : plain.Instr) (at : ℕ) → plain_step xs s ≡ (line, it) → free_successors it (suc at) ≡ ways (free_way_of s) (at + 1)
plain_ways xs s line it at is =
    let same : plain_instr xs s.what ≡ it = ap (λ (p : plain.Step). p.1) is in
    sym (ap (λ (w : plain.Instr). free_successors w (suc at)) same) ∙ same_ways xs s.what (suc at) ∙ ap (ways (free_way_of s)) (next_is at)

to_plain : (xs : Variables) (steps : List Step) (hs : List ℕ) → Fall (map free_way_of steps) hs → HeightsFall (map (plain_step xs) steps) hs
to_plain xs steps hs fall at line it is =
    let m = mapped_from (plain_step xs) steps at (line, it) is in
    let here = mapped_to free_way_of steps at m.item m.is in
    let low : (to : ℕ) → Contains (ways (free_way_of m.item) (at + 1)) to → get_or hs to 0 < height_at hs at = λ to stands. subst (λ x. get_or hs to 0 < x) (sym (same_height hs at)) (fall at to (free_way_of m.item, here, stands)) in
    subst (AllLower hs (height_at hs at)) (sym (plain_ways xs m.item line it at m.gives)) (all_lower hs (height_at hs at) (ways (free_way_of m.item) (at + 1)) low)

from_plain : (xs : Variables) (steps : List Step) (hs : List ℕ) → HeightsFall (map (plain_step xs) steps) hs → Fall (map free_way_of steps) hs
from_plain xs steps hs falls at to leads =
    let m = mapped_from free_way_of steps at leads.0 leads.1 in
    let here = mapped_to (plain_step xs) steps at m.item m.is in
    let low = falls at m.item.line (plain_instr xs m.item.what) here in
    let tos = subst (AllLower hs (height_at hs at)) (plain_ways xs m.item m.item.line (plain_instr xs m.item.what) at refl) low in
    let stands : Contains (ways (free_way_of m.item) (at + 1)) to = subst (λ (w : Way). Contains (ways w (at + 1)) to) (sym m.gives) leads.2 in
    subst (λ x. get_or hs to 0 < x) (same_height hs at) (lower_at hs (height_at hs at) (ways (free_way_of m.item) (at + 1)) to stands.0 tos stands.1 stands.2)

-- ---- what is found

found_fall : (xs : Variables) (steps : List Step) (all : List Way) (hs : List ℕ) → all ≡ map free_way_of steps → Fall all hs → HeightsFall (map (plain_step xs) steps) hs
found_fall xs steps all hs is fall = to_plain xs steps hs (subst (λ ws. Fall ws hs) is fall)

none_fall : (xs : Variables) (steps : List Step) (all : List Way) → all ≡ map free_way_of steps → ((hs : List ℕ) → Fall all hs → ⊥) → (hs : List ℕ) → HeightsFall (map (plain_step xs) steps) hs → ⊥
none_fall xs steps all is none hs falls = none hs (subst (λ ws. Fall ws hs) (sym is) (from_plain xs steps hs falls))

pub seen_so : {V E : Type 0} (r : Result (Option V) E) (items : V → List ℕ) (xs : Variables) (steps : List Step) (all : List Way) → all ≡ map free_way_of steps → IfOk r (λ found. MatchOption found ((hs : List ℕ) → Fall all hs → ⊥) (λ v. Fall all (items v))) → IfOk r (λ found. MatchOption found ((hs : List ℕ) → HeightsFall (map (plain_step xs) steps) hs → ⊥) (λ v. HeightsFall (map (plain_step xs) steps) (items v)))
seen_so (Ok (Some v)) items xs steps all is fall = found_fall xs steps all (items v) is fall
seen_so (Ok None) items xs steps all is none = none_fall xs steps all is none
seen_so (Err e) items xs steps all is h = tt
