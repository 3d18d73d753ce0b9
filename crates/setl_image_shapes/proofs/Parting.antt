-- Shapes that serve and shapes that meet, run by run.
use Rattle.std.proofs.Common.{◌≡◌, ℕ, zero, suc, ◌+◌, ◌-◌, ◌<◌, ◌≤◌, true, false, ◌&&◌, List, [], ◌∷◌, ◌++◌, length, get_or, Option, Some, None, option_map, refl, sym, ap, ◌∙◌, subst, arith}
use Rattle.setl_code.specs.Shapes.{Kind, Shape, serves, all_serve}
use Rattle.setl_image_shapes.specs.declared.stacks.Run.{Run}
use Rattle.setl_image_shapes.specs.declared.stacks.Part.{Part}
use Rattle.setl_image_shapes.specs.Joins.{joined_kind, with_top, joined}
use Rattle.setl_image_shapes.specs.Runs.{plain_kind, on, IsTop, IsAt, Grown, laid}
use Rattle.setl_image_shapes.proofs.Joining.{join_same, serve_same}
use Rattle.setl_image_shapes.proofs.Stacking.{length_on}

-- ---- serving

serve_runs : (k l : Kind) (m c d p q : ℕ) (s t : Shape) → serves k l ≡ true → c ≡ m + p → d ≡ m + q → all_serve (on k c s) (on l d t) ≡ all_serve (on k p s) (on l q t)
serve_runs k l zero c d p q s t kind first second =
    let a : c ≡ p = omega (arith, first) in
    let b : d ≡ q = omega (arith, second) in
    ap (λ i. all_serve (on k i s) (on l d t)) a ∙ ap (λ i. all_serve (on k p s) (on l i t)) b
serve_runs k l (suc m) zero d p q s t kind first second = absurd (omega (arith, first))
serve_runs k l (suc m) (suc c) zero p q s t kind first second = absurd (omega (arith, second))
serve_runs k l (suc m) (suc c) (suc d) p q s t kind first second = ap (λ b. b && all_serve (on k c s) (on l d t)) kind ∙ serve_runs k l m c d p q s t kind (omega (arith, first)) (omega (arith, second))

serve_not : (k l : Kind) (c d : ℕ) (s t : Shape) → serves k l ≡ false → 0 < c → 0 < d → all_serve (on k c s) (on l d t) ≡ false
serve_not k l zero d s t kind first second = absurd (omega (arith, first))
serve_not k l (suc c) zero s t kind first second = absurd (omega (arith, second))
serve_not k l (suc c) (suc d) s t kind first second = ap (λ b. b && all_serve (on k c s) (on l d t)) kind

-- ---- meeting

map_same : (o : Option Shape) → o ≡ option_map (λ s. s) o
map_same None = refl
map_same (Some s) = refl

top_map : (j : Kind) (f : Shape → Shape) (o : Option Shape) → with_top (Some j) (option_map f o) ≡ option_map (λ s. j ∷ f s) o
top_map j f None = refl
top_map j f (Some s) = refl

join_runs : (k l j : Kind) (m c d p q : ℕ) (s t : Shape) → joined_kind k l ≡ Some j → c ≡ m + p → d ≡ m + q → joined (on k c s) (on l d t) ≡ option_map (λ x. on j m x) (joined (on k p s) (on l q t))
join_runs k l j zero c d p q s t kind first second =
    let a : c ≡ p = omega (arith, first) in
    let b : d ≡ q = omega (arith, second) in
    ap (λ i. joined (on k i s) (on l d t)) a ∙ ap (λ i. joined (on k p s) (on l i t)) b ∙ map_same (joined (on k p s) (on l q t))
join_runs k l j (suc m) zero d p q s t kind first second = absurd (omega (arith, first))
join_runs k l j (suc m) (suc c) zero p q s t kind first second = absurd (omega (arith, second))
join_runs k l j (suc m) (suc c) (suc d) p q s t kind first second =
    ap (λ x. with_top x (joined (on k c s) (on l d t))) kind
    ∙ ap (with_top (Some j)) (join_runs k l j m c d p q s t kind (omega (arith, first)) (omega (arith, second)))
    ∙ top_map j (λ x. on j m x) (joined (on k p s) (on l q t))

join_not : (k l : Kind) (c d : ℕ) (s t : Shape) → joined_kind k l ≡ None → 0 < c → 0 < d → joined (on k c s) (on l d t) ≡ None
join_not k l zero d s t kind first second = absurd (omega (arith, first))
join_not k l (suc c) zero s t kind first second = absurd (omega (arith, second))
join_not k l (suc c) (suc d) s t kind first second = ap (λ x. with_top x (joined (on k c s) (on l d t))) kind

laid_more : (ps : List Part) (p : Part) (s : Shape) → laid (ps ++ p ∷ []) s ≡ laid ps (on (plain_kind p.kind) p.count s)
laid_more [] p s = refl
laid_more (q ∷ ps) p s = ap (on (plain_kind q.kind) q.count) (laid_more ps p s)

map_laid : (ps : List Part) (p : Part) (o : Option Shape) → option_map (λ s. laid (ps ++ p ∷ []) s) o ≡ option_map (λ s. laid ps s) (option_map (λ s. on (plain_kind p.kind) p.count s) o)
map_laid ps p None = refl
map_laid ps p (Some s) = ap (λ x. Some x) (laid_more ps p s)

-- ---- one of two is empty

on_some : (k : Kind) (c : ℕ) (s : Shape) → 0 < c → (all_serve [] (on k c s) ≡ false) × (all_serve (on k c s) [] ≡ false) × (joined [] (on k c s) ≡ None) × (joined (on k c s) [] ≡ None)
on_some k zero s some = absurd (omega (arith, some))
on_some k (suc c) s some = (refl, refl, refl, refl)

-- shapes that don't meet
abbrev pub Apart : Shape → Shape → Type 0
Apart s t = (all_serve s t ≡ false) × (joined s t ≡ None)

pub first_empty : (stacks : List Shape) (a b : ℕ) (second : Option Run) → IsTop stacks a None → IsTop stacks b second → (a ≡ b → ⊥) → Apart (get_or stacks a []) (get_or stacks b [])
first_empty stacks a b None first other differ = absurd (differ (omega (arith, first.0, other.0)))
first_empty stacks a b (Some r) first other differ =
    let o = on_some (plain_kind r.kind) r.count (get_or stacks r.below []) other.0 in
    rw first.1 (rw other.2 (o.0, o.2))

pub second_empty : (stacks : List Shape) (a b : ℕ) (r : Run) → IsTop stacks a (Some r) → IsTop stacks b None → Apart (get_or stacks a []) (get_or stacks b [])
second_empty stacks a b r first other =
    let o = on_some (plain_kind r.kind) r.count (get_or stacks r.below []) first.0 in
    rw first.2 (rw other.1 (o.1, o.3))

-- ---- two runs

pub serves_not : (stacks : List Shape) (a b : ℕ) (x y : Run) → IsTop stacks a (Some x) → IsTop stacks b (Some y) → serves (plain_kind x.kind) (plain_kind y.kind) ≡ false → all_serve (get_or stacks a []) (get_or stacks b []) ≡ false
serves_not stacks a b x y first second kind = rw first.2 (rw second.2 (serve_not (plain_kind x.kind) (plain_kind y.kind) x.count y.count (get_or stacks x.below []) (get_or stacks y.below []) kind first.0 second.0))

pub joins_not : (stacks : List Shape) (a b : ℕ) (x y : Run) → IsTop stacks a (Some x) → IsTop stacks b (Some y) → joined_kind (plain_kind x.kind) (plain_kind y.kind) ≡ None → joined (get_or stacks a []) (get_or stacks b []) ≡ None
joins_not stacks a b x y first second kind = rw first.2 (rw second.2 (join_not (plain_kind x.kind) (plain_kind y.kind) x.count y.count (get_or stacks x.below []) (get_or stacks y.below []) kind first.0 second.0))

-- ---- what stands below a common part of two runs

pub record Parted (stacks : List Shape) (x y : Run) (m : ℕ) (more : List Shape) (a b : ℕ) : Type 0 where
  pub grown : Grown stacks more
  pub first : IsAt more a (on (plain_kind x.kind) (x.count - m) (get_or stacks x.below []))
  pub second : IsAt more b (on (plain_kind y.kind) (y.count - m) (get_or stacks y.below []))

pub grown_same : (stacks : List Shape) → Grown stacks stacks
grown_same stacks k less = (less, refl)

pub grown_equal : (one two : List Shape) → two ≡ one → Grown one two
grown_equal one two is = subst (Grown one) (sym is) (grown_same one)

pub grown_on : (one two three : List Shape) → Grown one two → Grown two three → Grown one three
grown_on one two three first second k less =
    let f = first k less in
    let s = second k f.0 in
    (s.0, s.1 ∙ f.1)

pub at_later : (one two : List Shape) (k : ℕ) (s : Shape) → Grown one two → IsAt one k s → IsAt two k s
at_later one two k s grown at = let g = grown k at.0 in (g.0, g.1 ∙ at.1)

pub parted : (stacks one two : List Shape) (x y : Run) (m a b : ℕ) → Grown stacks one → Grown one two → y.below < length stacks → IsAt one a (on (plain_kind x.kind) (x.count - m) (get_or stacks x.below [])) → IsAt two b (on (plain_kind y.kind) (y.count - m) (get_or one y.below [])) → Parted stacks x y m two a b
parted stacks one two x y m a b first second below at there = record {
  grown = grown_on stacks one two first second;
  first = at_later one two a (on (plain_kind x.kind) (x.count - m) (get_or stacks x.below [])) second at;
  second = (there.0, there.1 ∙ ap (on (plain_kind y.kind) (y.count - m)) (first y.below below).1);
}

pub parted_serves : (stacks more : List Shape) (a b c d m : ℕ) (x y : Run) → IsTop stacks a (Some x) → IsTop stacks b (Some y) → serves (plain_kind x.kind) (plain_kind y.kind) ≡ true → m ≤ x.count → m ≤ y.count → Parted stacks x y m more c d → all_serve (get_or more c []) (get_or more d []) ≡ all_serve (get_or stacks a []) (get_or stacks b [])
parted_serves stacks more a b c d m x y first second kind one two p =
    let e : x.count ≡ m + (x.count - m) = omega (arith, one) in
    let f : y.count ≡ m + (y.count - m) = omega (arith, two) in
    let same = serve_runs (plain_kind x.kind) (plain_kind y.kind) m x.count y.count (x.count - m) (y.count - m) (get_or stacks x.below []) (get_or stacks y.below []) kind e f in
    rw p.first.1 (rw p.second.1 (rw first.2 (rw second.2 (sym same))))

pub parted_joins : (stacks more : List Shape) (a b c d m : ℕ) (x y : Run) (j : Kind) → IsTop stacks a (Some x) → IsTop stacks b (Some y) → joined_kind (plain_kind x.kind) (plain_kind y.kind) ≡ Some j → m ≤ x.count → m ≤ y.count → Parted stacks x y m more c d → joined (get_or stacks a []) (get_or stacks b []) ≡ option_map (λ s. on j m s) (joined (get_or more c []) (get_or more d []))
parted_joins stacks more a b c d m x y j first second kind one two p =
    let e : x.count ≡ m + (x.count - m) = omega (arith, one) in
    let f : y.count ≡ m + (y.count - m) = omega (arith, two) in
    let same = join_runs (plain_kind x.kind) (plain_kind y.kind) j m x.count y.count (x.count - m) (y.count - m) (get_or stacks x.below []) (get_or stacks y.below []) kind e f in
    rw p.first.1 (rw p.second.1 (rw first.2 (rw second.2 same)))

pub parted_less : (stacks more : List Shape) (a c d m : ℕ) (x y : Run) → IsTop stacks a (Some x) → 0 < m → m ≤ x.count → Parted stacks x y m more c d → length (get_or more c []) < length (get_or stacks a [])
parted_less stacks more a c d m x y first some one p =
    let now = ap length p.first.1 ∙ length_on (plain_kind x.kind) (x.count - m) (get_or stacks x.below []) in
    let was = ap length first.2 ∙ length_on (plain_kind x.kind) x.count (get_or stacks x.below []) in
    omega (arith, now, was, some, one)

-- ---- parts

pub joins_equal : (stacks : List Shape) (a b : ℕ) → a ≡ b → joined (get_or stacks a []) (get_or stacks b []) ≡ Some (get_or stacks a [])
joins_equal stacks a b same = ap (λ k. joined (get_or stacks a []) (get_or stacks k [])) (sym same) ∙ join_same (get_or stacks a [])

pub serves_equal : (stacks : List Shape) (a b : ℕ) → a ≡ b → all_serve (get_or stacks a []) (get_or stacks b []) ≡ true
serves_equal stacks a b same = ap (λ k. all_serve (get_or stacks a []) (get_or stacks k [])) (sym same) ∙ serve_same (get_or stacks a [])

-- one part more is joined
pub part_joined : (upper more : List Part) (p : Part) (o q whole : Option Shape) → more ≡ upper ++ p ∷ [] → o ≡ option_map (λ s. on (plain_kind p.kind) p.count s) q → option_map (λ s. laid upper s) o ≡ whole → option_map (λ s. laid more s) q ≡ whole
part_joined upper more p o q whole is join so = ap (λ (ps : List Part). option_map (λ s. laid ps s) q) is ∙ map_laid upper p q ∙ ap (option_map (λ s. laid upper s)) (sym join) ∙ so

-- the last part is laid
pub part_laid : (parts less : List Part) (p : Part) (s now whole : Shape) → parts ≡ less ++ p ∷ [] → now ≡ on (plain_kind p.kind) p.count s → laid parts s ≡ whole → laid less now ≡ whole
part_laid parts less p s now whole is on_top so = ap (laid less) on_top ∙ sym (laid_more less p s) ∙ ap (λ (ps : List Part). laid ps s) (sym is) ∙ so
