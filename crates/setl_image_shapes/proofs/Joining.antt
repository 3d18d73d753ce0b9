-- Shapes that serve where another one is said, and where two shapes meet.
use Rattle.std.proofs.Common.{◌≡◌, ◌<◌, ◌≤◌, Bool, true, false, ◌&&◌, [], ◌∷◌, Option, Some, None, refl, sym, ap, ◌∙◌, subst, arith}
use Rattle.setl_code.specs.Shapes.{Kind, AResult, ACollection, AnIterator, APairIterator, Shape, serves, all_serve}
use Rattle.setl_image_shapes.specs.Joins.{joined_kind, with_top, joined, is_begun, collections}

-- ---- truth values

pub both_true : {a b : Bool} → a && b ≡ true → (a ≡ true) × (b ≡ true)
both_true {a = true} {b = b} h = (refl, h)
both_true {a = false} {b = b} h = cc

pub true_both : {a b : Bool} → a ≡ true → b ≡ true → a && b ≡ true
true_both {a = true} {b = b} h i = i
true_both {a = false} {b = b} h i = cc

-- ---- kinds

kind_serves : (k : Kind) → serves k k ≡ true
kind_serves AResult = refl
kind_serves ACollection = refl
kind_serves AnIterator = refl
kind_serves APairIterator = refl

kind_trans : (k l m : Kind) → serves k l ≡ true → serves l m ≡ true → serves k m ≡ true
kind_trans AResult AResult m h i = i
kind_trans ACollection ACollection m h i = i
kind_trans ACollection AResult AResult h i = refl
kind_trans AnIterator AnIterator m h i = i
kind_trans APairIterator APairIterator m h i = i
kind_trans k l m h i = cc

kind_fewer : (k l : Kind) → serves k l ≡ true → is_begun l ≤ is_begun k
kind_fewer AResult AResult h = omega arith
kind_fewer ACollection AResult h = omega arith
kind_fewer ACollection ACollection h = omega arith
kind_fewer AnIterator AnIterator h = omega arith
kind_fewer APairIterator APairIterator h = omega arith
kind_fewer k l h = cc

kind_joined : (k l m : Kind) → joined_kind k l ≡ Some m → (serves k m ≡ true) × (serves l m ≡ true)
kind_joined AResult AResult AResult h = (refl, refl)
kind_joined AResult ACollection AResult h = (refl, refl)
kind_joined ACollection AResult AResult h = (refl, refl)
kind_joined ACollection ACollection ACollection h = (refl, refl)
kind_joined AnIterator AnIterator AnIterator h = (refl, refl)
kind_joined APairIterator APairIterator APairIterator h = (refl, refl)
kind_joined k l m h = absurd (cc)

record KindJoins (k l m : Kind) : Type 0 where
  kind : Kind
  is : joined_kind k l ≡ Some kind
  serve : serves kind m ≡ true

kind_least : (m k l : Kind) → serves k m ≡ true → serves l m ≡ true → KindJoins k l m
kind_least AResult AResult AResult h i = record { kind = AResult; is = refl; serve = refl }
kind_least AResult AResult ACollection h i = record { kind = AResult; is = refl; serve = refl }
kind_least AResult ACollection AResult h i = record { kind = AResult; is = refl; serve = refl }
kind_least AResult ACollection ACollection h i = record { kind = ACollection; is = refl; serve = refl }
kind_least ACollection ACollection ACollection h i = record { kind = ACollection; is = refl; serve = refl }
kind_least AnIterator AnIterator AnIterator h i = record { kind = AnIterator; is = refl; serve = refl }
kind_least APairIterator APairIterator APairIterator h i = record { kind = APairIterator; is = refl; serve = refl }
kind_least m k l h i = absurd (cc)

-- one that doesn't serve where the first does, falls where both serve
kind_falls : (k m l : Kind) → serves k m ≡ true → serves l m ≡ true → serves l k ≡ false → is_begun m < is_begun k
kind_falls AResult AResult l h i off = absurd (cc)
kind_falls ACollection AResult AResult h i off = omega arith
kind_falls ACollection ACollection l h i off = absurd (cc)
kind_falls AnIterator AnIterator l h i off = absurd (cc)
kind_falls APairIterator APairIterator l h i off = absurd (cc)
kind_falls k m l h i off = absurd (cc)

-- ---- shapes

pub serve_same : (s : Shape) → all_serve s s ≡ true
serve_same [] = refl
serve_same (k ∷ s) = true_both (kind_serves k) (serve_same s)

pub serve_trans : (s t u : Shape) → all_serve s t ≡ true → all_serve t u ≡ true → all_serve s u ≡ true
serve_trans [] [] u h i = i
serve_trans [] (l ∷ t) u h i = cc
serve_trans (k ∷ s) [] u h i = cc
serve_trans (k ∷ s) (l ∷ t) [] h i = cc
serve_trans (k ∷ s) (l ∷ t) (m ∷ u) h i =
    let a = both_true h in
    let b = both_true i in
    true_both (kind_trans k l m a.0 b.0) (serve_trans s t u a.1 b.1)

pub serve_fewer : (s t : Shape) → all_serve s t ≡ true → collections t ≤ collections s
serve_fewer [] [] h = omega arith
serve_fewer [] (l ∷ t) h = cc
serve_fewer (k ∷ s) [] h = cc
serve_fewer (k ∷ s) (l ∷ t) h =
    let a : (serves k l ≡ true) × (all_serve s t ≡ true) = both_true h in
    omega (arith, kind_fewer k l a.0, serve_fewer s t a.1)

with_top_is : (k : Option Kind) (s : Option Shape) (j : Shape) → with_top k s ≡ Some j → (m : Kind) × (t : Shape) × (k ≡ Some m) × (s ≡ Some t) × (m ∷ t ≡ j)
with_top_is None s j h = absurd (cc)
with_top_is (Some m) None j h = absurd (cc)
with_top_is (Some m) (Some t) j h = let same : m ∷ t ≡ j = cc in (m, t, refl, refl, same)

pub join_serves : (s t j : Shape) → joined s t ≡ Some j → (all_serve s j ≡ true) × (all_serve t j ≡ true)
join_serves [] [] j h = let same : [] ≡ j = cc in (ap (all_serve []) (sym same), ap (all_serve []) (sym same))
join_serves [] (l ∷ t) j h = absurd (cc)
join_serves (k ∷ s) [] j h = absurd (cc)
join_serves (k ∷ s) (l ∷ t) j h =
    let w = with_top_is (joined_kind k l) (joined s t) j h in
    let top = kind_joined k l w.0 w.2 in
    let rest = join_serves s t w.1 w.3 in
    (subst (λ x. all_serve (k ∷ s) x ≡ true) w.4 (true_both top.0 rest.0), subst (λ x. all_serve (l ∷ t) x ≡ true) w.4 (true_both top.1 rest.1))

pub record Joins (s t u : Shape) : Type 0 where
  pub shape : Shape
  pub is : joined s t ≡ Some shape
  pub serve : all_serve shape u ≡ true

pub join_least : (s t u : Shape) → all_serve s u ≡ true → all_serve t u ≡ true → Joins s t u
join_least [] [] [] h i = record { shape = []; is = refl; serve = refl }
join_least [] (l ∷ t) [] h i = absurd (cc)
join_least (k ∷ s) t [] h i = absurd (cc)
join_least [] t (m ∷ u) h i = absurd (cc)
join_least (k ∷ s) [] (m ∷ u) h i = absurd (cc)
join_least (k ∷ s) (l ∷ t) (m ∷ u) h i =
    let a = both_true h in
    let b = both_true i in
    let top = kind_least m k l a.0 b.0 in
    let rest = join_least s t u a.1 b.1 in
    let is : joined (k ∷ s) (l ∷ t) ≡ Some (top.kind ∷ rest.shape) = ap (λ x. with_top x (joined s t)) top.is ∙ ap (with_top (Some top.kind)) rest.is in
    record { shape = top.kind ∷ rest.shape; is = is; serve = true_both top.serve rest.serve }

pub join_falls : (s t j : Shape) → all_serve s j ≡ true → all_serve t j ≡ true → all_serve t s ≡ false → collections j < collections s
join_falls [] [] j h i off = absurd (cc)
join_falls [] (l ∷ t) [] h i off = absurd (cc)
join_falls [] (l ∷ t) (m ∷ j) h i off = absurd (cc)
join_falls (k ∷ s) t [] h i off = absurd (cc)
join_falls (k ∷ s) [] (m ∷ j) h i off = absurd (cc)
join_falls (k ∷ s) (l ∷ t) (m ∷ j) h i off = go (both_true h) (both_true i) (λ a b rest. join_falls s t j a b rest) (serves l k) refl
  where
    go : (serves k m ≡ true) × (all_serve s j ≡ true) → (serves l m ≡ true) × (all_serve t j ≡ true) → (all_serve s j ≡ true → all_serve t j ≡ true → all_serve t s ≡ false → collections j < collections s) → (b : Bool) → serves l k ≡ b → collections (m ∷ j) < collections (k ∷ s)
    go a b falls true is =
        let rest : all_serve t s ≡ false = sym (ap (λ x. x && all_serve t s) is) ∙ off in
        omega (arith, kind_fewer k m a.0, falls a.1 b.1 rest)
    go a b falls false is = omega (arith, kind_falls k m l a.0 b.0 is, serve_fewer s j a.1)

pub join_same : (s : Shape) → joined s s ≡ Some s
join_same [] = refl
join_same (AResult ∷ s) = ap (with_top (Some AResult)) (join_same s)
join_same (ACollection ∷ s) = ap (with_top (Some ACollection)) (join_same s)
join_same (AnIterator ∷ s) = ap (with_top (Some AnIterator)) (join_same s)
join_same (APairIterator ∷ s) = ap (with_top (Some APairIterator)) (join_same s)
