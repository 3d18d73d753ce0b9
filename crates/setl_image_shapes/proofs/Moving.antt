-- Steps lead from shapes that serve to shapes that serve.
use Rattle.std.proofs.Common.{◌≡◌, ℕ, zero, suc, ◌+◌, ◌≤◌, true, List, [], ◌∷◌, length, Option, Some, None, refl, sym, ap, ◌∙◌, subst, arith}
use Rattle.setl_code.specs.Shapes.{Kind, AResult, ACollection, AnIterator, APairIterator, Shape, all_serve, without_results, without_levels, if_collection, after, results, Outs, lead, next_outs}
use Rattle.setl_code.specs.Sound.{Table, shape_at, says, all_said, is_fine}
use Rattle.setl_image_shapes.specs.declared.effect.Effect.{Effect}
use Rattle.setl_image_shapes.specs.declared.effect.Effect.TheVariants.{Results, Puts, Calls, Begins, Jumps, Tests, Decides, Next, Adds, Leaves, Ends, Lacks}
use Rattle.setl_image_shapes.specs.Runs.{plain_kind}
use Rattle.setl_image_shapes.specs.Joins.{is_begun, collections}
use Rattle.setl_image_shapes.specs.Effects.{leads}
use Rattle.setl_image_shapes.specs.Tables.{FewMore, unreached}
use Rattle.setl_image_shapes.proofs.Joining.{both_true, true_both, serve_trans}

-- ---- what is popped

-- where the second leaves a shape, the first leaves one that serves
abbrev Weaker : Option Shape → Option Shape → Type 0
Weaker o p = (t : Shape) → p ≡ Some t → (s : Shape) × (o ≡ Some s) × (all_serve s t ≡ true)

same_some : {A : Type 0} {x y : A} → Some x ≡ Some y → x ≡ y
same_some h = cc

there : (s t : Shape) → all_serve s t ≡ true → Weaker (Some s) (Some t)
there s t h u is = (s, refl, subst (λ x. all_serve s x ≡ true) (same_some is) h)

results_weaker : (n : ℕ) (s t : Shape) → all_serve s t ≡ true → Weaker (without_results n s) (without_results n t)
results_weaker zero s t h u is = there s t h u is
results_weaker (suc n) [] [] h u is = absurd (cc)
results_weaker (suc n) [] (l ∷ t) h u is = absurd (cc)
results_weaker (suc n) (k ∷ s) [] h u is = absurd (cc)
results_weaker (suc n) (AResult ∷ s) (AResult ∷ t) h u is = results_weaker n s t h u is
results_weaker (suc n) (ACollection ∷ s) (AResult ∷ t) h u is = results_weaker n s t h u is
results_weaker (suc n) (AnIterator ∷ s) (AResult ∷ t) h u is = absurd (cc)
results_weaker (suc n) (APairIterator ∷ s) (AResult ∷ t) h u is = absurd (cc)
results_weaker (suc n) (AResult ∷ s) (ACollection ∷ t) h u is = absurd (cc)
results_weaker (suc n) (ACollection ∷ s) (ACollection ∷ t) h u is = results_weaker n s t h u is
results_weaker (suc n) (AnIterator ∷ s) (ACollection ∷ t) h u is = absurd (cc)
results_weaker (suc n) (APairIterator ∷ s) (ACollection ∷ t) h u is = absurd (cc)
results_weaker (suc n) (k ∷ s) (AnIterator ∷ t) h u is = absurd (cc)
results_weaker (suc n) (k ∷ s) (APairIterator ∷ t) h u is = absurd (cc)

levels_weaker : (n : ℕ) (s t : Shape) → all_serve s t ≡ true → Weaker (without_levels n s) (without_levels n t)
levels_weaker zero s t h u is = there s t h u is
levels_weaker (suc n) [] [] h u is = absurd (cc)
levels_weaker (suc n) [] (l ∷ t) h u is = absurd (cc)
levels_weaker (suc n) (k ∷ s) [] h u is = absurd (cc)
levels_weaker (suc n) (k ∷ s) (AResult ∷ t) h u is = absurd (cc)
levels_weaker (suc n) (k ∷ s) (ACollection ∷ t) h u is = absurd (cc)
levels_weaker (suc n) (AnIterator ∷ s) (AnIterator ∷ t) h u is = levels_weaker n s t h u is
levels_weaker (suc n) (AResult ∷ s) (AnIterator ∷ t) h u is = absurd (cc)
levels_weaker (suc n) (ACollection ∷ s) (AnIterator ∷ t) h u is = absurd (cc)
levels_weaker (suc n) (APairIterator ∷ s) (AnIterator ∷ t) h u is = absurd (cc)
levels_weaker (suc n) (APairIterator ∷ s) (APairIterator ∷ t) h u is = levels_weaker n s t h u is
levels_weaker (suc n) (AResult ∷ s) (APairIterator ∷ t) h u is = absurd (cc)
levels_weaker (suc n) (ACollection ∷ s) (APairIterator ∷ t) h u is = absurd (cc)
levels_weaker (suc n) (AnIterator ∷ s) (APairIterator ∷ t) h u is = absurd (cc)

-- a collection is on top where one is on top of what is served
collection_weaker : (s t : Shape) (v w : Option Shape) → all_serve s t ≡ true → Weaker v w → Weaker (if_collection s v) (if_collection t w)
collection_weaker [] [] v w h less u is = absurd (cc)
collection_weaker [] (l ∷ t) v w h less u is = absurd (cc)
collection_weaker (k ∷ s) [] v w h less u is = absurd (cc)
collection_weaker (k ∷ s) (AResult ∷ t) v w h less u is = absurd (cc)
collection_weaker (k ∷ s) (AnIterator ∷ t) v w h less u is = absurd (cc)
collection_weaker (k ∷ s) (APairIterator ∷ t) v w h less u is = absurd (cc)
collection_weaker (ACollection ∷ s) (ACollection ∷ t) v w h less u is = less u is
collection_weaker (AResult ∷ s) (ACollection ∷ t) v w h less u is = absurd (cc)
collection_weaker (AnIterator ∷ s) (ACollection ∷ t) v w h less u is = absurd (cc)
collection_weaker (APairIterator ∷ s) (ACollection ∷ t) v w h less u is = absurd (cc)

after_is : (o : Option Shape) (f : Shape → Option Shape) (r : Shape) → after o f ≡ Some r → (x : Shape) × (o ≡ Some x) × (f x ≡ Some r)
after_is None f r h = absurd (cc)
after_is (Some x) f r h = (x, refl, h)

after_weaker : (o p : Option Shape) (f g : Shape → Option Shape) → Weaker o p → ((s t : Shape) → all_serve s t ≡ true → Weaker (f s) (g t)) → Weaker (after o f) (after p g)
after_weaker o p f g less each u is =
    let a = after_is p g u is in
    let b = less a.0 a.1 in
    let c = each b.0 a.0 b.2 u a.2 in
    (c.0, ap (λ x. after x f) b.1 ∙ c.1, c.2)

-- ---- where it leads

abbrev AllServe : List (ℕ × Shape) → List (ℕ × Shape) → Type 0
AllServe [] [] = Unit {0}
AllServe (o ∷ os) (p ∷ ps) = (o.0 ≡ p.0) × (all_serve o.1 p.1 ≡ true) × AllServe os ps
AllServe os ps = ⊥

-- the first leads where the second does, with shapes that serve
abbrev Moves : Outs → Outs → Type 0
Moves os ps = (these : List (ℕ × Shape)) → ps ≡ Some these → (those : List (ℕ × Shape)) × (os ≡ Some those) × AllServe those these

lead_is : (o : Option Shape) (f : Shape → List (ℕ × Shape)) (os : List (ℕ × Shape)) → lead o f ≡ Some os → (x : Shape) × (o ≡ Some x) × (f x ≡ os)
lead_is None f os h = absurd (cc)
lead_is (Some x) f os h = (x, refl, same_some h)

lead_moves : (o p : Option Shape) (f : Shape → List (ℕ × Shape)) → Weaker o p → ((s t : Shape) → all_serve s t ≡ true → AllServe (f s) (f t)) → Moves (lead o f) (lead p f)
lead_moves o p f less each these is =
    let a = lead_is p f these is in
    let b = less a.0 a.1 in
    (f b.0, ap (λ x. lead x f) b.1, subst (AllServe (f b.0)) a.2 (each b.0 a.0 b.2))

results_serve : (m : ℕ) (s t : Shape) → all_serve s t ≡ true → all_serve (results m s) (results m t) ≡ true
results_serve zero s t h = h
results_serve (suc m) s t h = results_serve m s t h

some_moves : (os ps : List (ℕ × Shape)) → AllServe os ps → Moves (Some os) (Some ps)
some_moves os ps serve these is = (os, refl, subst (AllServe os) (same_some is) serve)

next_moves : (at to : ℕ) (s t : Shape) → all_serve s t ≡ true → Moves (next_outs at to s) (next_outs at to t)
next_moves at to [] [] h these is = absurd (cc)
next_moves at to [] (l ∷ t) h these is = absurd (cc)
next_moves at to (k ∷ s) [] h these is = absurd (cc)
next_moves at to (k ∷ s) (AResult ∷ t) h these is = absurd (cc)
next_moves at to (k ∷ s) (ACollection ∷ t) h these is = absurd (cc)
next_moves at to (AnIterator ∷ s) (AnIterator ∷ t) h these is = some_moves _ _ (refl, h, (refl, h, tt)) these is
next_moves at to (AResult ∷ s) (AnIterator ∷ t) h these is = absurd (cc)
next_moves at to (ACollection ∷ s) (AnIterator ∷ t) h these is = absurd (cc)
next_moves at to (APairIterator ∷ s) (AnIterator ∷ t) h these is = absurd (cc)
next_moves at to (APairIterator ∷ s) (APairIterator ∷ t) h these is = some_moves _ _ (refl, h, (refl, h, tt)) these is
next_moves at to (AResult ∷ s) (APairIterator ∷ t) h these is = absurd (cc)
next_moves at to (ACollection ∷ s) (APairIterator ∷ t) h these is = absurd (cc)
next_moves at to (AnIterator ∷ s) (APairIterator ∷ t) h these is = absurd (cc)

top_serves : (k : Kind) (s t : Shape) → all_serve s t ≡ true → all_serve (k ∷ s) (k ∷ t) ≡ true
top_serves AResult s t h = h
top_serves ACollection s t h = h
top_serves AnIterator s t h = h
top_serves APairIterator s t h = h

none_moves : (o : Outs) → Moves o None
none_moves o these is = absurd (cc)

leads_moves : (e : Effect) (at : ℕ) (s t : Shape) → all_serve s t ≡ true → Moves (leads e at s) (leads e at t)
leads_moves (Results n m) at s t h = lead_moves _ _ (λ x. (at, results m x) ∷ []) (results_weaker n s t h) (λ x y i. (refl, results_serve m x y i, tt))
leads_moves (Puts n) at s t h = lead_moves _ _ (λ x. (at, results 0 x) ∷ []) (after_weaker _ _ (without_results 1) (without_results 1) (results_weaker n s t h) (λ x y i. results_weaker 1 x y i)) (λ x y i. (refl, i, tt))
leads_moves (Calls n m) at s t h = lead_moves _ _ (λ x. (at, results (suc m) x) ∷ []) (results_weaker n s t h) (λ x y i. (refl, results_serve (suc m) x y i, tt))
leads_moves (Begins n k) at s t h = lead_moves _ _ (λ x. (at, plain_kind k ∷ x) ∷ []) (results_weaker n s t h) (λ x y i. (refl, top_serves (plain_kind k) x y i, tt))
leads_moves (Jumps to) at s t h = some_moves _ _ (refl, h, tt)
leads_moves (Tests to) at s t h = lead_moves _ _ (λ x. (at, x) ∷ (to, x) ∷ []) (results_weaker 1 s t h) (λ x y i. (refl, i, (refl, i, tt)))
leads_moves (Decides to) at s t h = lead_moves _ _ (λ x. (at, x) ∷ (to, AResult ∷ x) ∷ []) (results_weaker 1 s t h) (λ x y i. (refl, i, (refl, i, tt)))
leads_moves (Next to) at s t h = next_moves at to s t h
leads_moves (Adds n) at s t h =
    lead_moves
    _
    _
    (λ x. (at, results 0 x) ∷ [])
    (after_weaker _ _ (λ x. after (without_levels n x) (λ u. if_collection u (Some x))) (λ x. after (without_levels n x) (λ u. if_collection u (Some x))) (results_weaker 1 s t h) (λ x y i. after_weaker _ _ (λ u. if_collection u (Some x)) (λ u. if_collection u (Some y)) (levels_weaker n x y i) (λ u v j. collection_weaker u v (Some x) (Some y) j (there x y i))))
    (λ x y i. (refl, i, tt))
leads_moves (Leaves n) at s t h = lead_moves _ _ (λ x. (at, results 0 x) ∷ []) (levels_weaker n s t h) (λ x y i. (refl, i, tt))
leads_moves (Ends n) at s t h = lead_moves _ _ (λ x. []) (results_weaker n s t h) (λ x y i. tt)
leads_moves Lacks at s t h = none_moves None

-- ---- what a table says

pub says_served : (o : Option Shape) (s t : Shape) → all_serve s t ≡ true → says o t ≡ true → says o s ≡ true
says_served None s t h i = cc
says_served (Some u) s t h i = serve_trans s t u h i

all_said_served : (table : Table) (os ps : List (ℕ × Shape)) → AllServe os ps → all_said table ps ≡ true → all_said table os ≡ true
all_said_served table [] [] serve said = refl
all_said_served table [] (p ∷ ps) serve said = absurd serve
all_said_served table (o ∷ os) [] serve said = absurd serve
all_said_served table (o ∷ os) (p ∷ ps) serve said =
    let a = both_true said in
    true_both (subst (λ n. says (shape_at table n) o.1 ≡ true) (sym serve.0) (says_served (shape_at table p.0) o.1 p.1 serve.1 a.0)) (all_said_served table os ps serve.2 a.1)

fine_is : (table : Table) (outs : Outs) → is_fine table outs ≡ true → (os : List (ℕ × Shape)) × (outs ≡ Some os) × (all_said table os ≡ true)
fine_is table None h = cc
fine_is table (Some os) h = (os, refl, h)

-- where a table is fine from a shape, it says where a step leads from one that serves
pub fine_served : (table : Table) (e : Effect) (at : ℕ) (s t : Shape) → all_serve s t ≡ true → is_fine table (leads e at t) ≡ true → (os : List (ℕ × Shape)) × (leads e at s ≡ Some os) × (all_said table os ≡ true)
fine_served table e at s t h fine =
    let f = fine_is table (leads e at t) fine in
    let m = leads_moves e at s t h f.0 f.1 in
    (m.0, m.1, all_said_served table m.0 f.0 m.2 f.2)

-- ---- how many collections

abbrev FewOuts : ℕ → List (ℕ × Shape) → Type 0
FewOuts n [] = Unit {0}
FewOuts n (o ∷ os) = (collections o.1 ≤ n) × FewOuts n os

results_fewer : (n : ℕ) (s t : Shape) → without_results n s ≡ Some t → collections t ≤ collections s
results_fewer zero s t is = let same : s ≡ t = cc in omega (arith, ap collections same)
results_fewer (suc n) [] t is = absurd (cc)
results_fewer (suc n) (AResult ∷ s) t is = omega (arith, results_fewer n s t is)
results_fewer (suc n) (ACollection ∷ s) t is = omega (arith, results_fewer n s t is)
results_fewer (suc n) (AnIterator ∷ s) t is = absurd (cc)
results_fewer (suc n) (APairIterator ∷ s) t is = absurd (cc)

levels_fewer : (n : ℕ) (s t : Shape) → without_levels n s ≡ Some t → collections t ≤ collections s
levels_fewer zero s t is = let same : s ≡ t = cc in omega (arith, ap collections same)
levels_fewer (suc n) [] t is = absurd (cc)
levels_fewer (suc n) (AResult ∷ s) t is = absurd (cc)
levels_fewer (suc n) (ACollection ∷ s) t is = absurd (cc)
levels_fewer (suc n) (AnIterator ∷ s) t is = omega (arith, levels_fewer n s t is)
levels_fewer (suc n) (APairIterator ∷ s) t is = omega (arith, levels_fewer n s t is)

collection_same : (s : Shape) (v : Option Shape) (t : Shape) → if_collection s v ≡ Some t → v ≡ Some t
collection_same [] v t is = absurd (cc)
collection_same (AResult ∷ s) v t is = absurd (cc)
collection_same (ACollection ∷ s) v t is = is
collection_same (AnIterator ∷ s) v t is = absurd (cc)
collection_same (APairIterator ∷ s) v t is = absurd (cc)

puts_fewer : (n : ℕ) (s t : Shape) → after (without_results n s) (without_results 1) ≡ Some t → collections t ≤ collections s
puts_fewer n s t is =
    let a = after_is (without_results n s) (without_results 1) t is in
    omega (arith, results_fewer n s a.0 a.1, results_fewer 1 a.0 t a.2)

adds_fewer : (n : ℕ) (s t : Shape) → after (without_results 1 s) (λ x. after (without_levels n x) (λ u. if_collection u (Some x))) ≡ Some t → collections t ≤ collections s
adds_fewer n s t is =
    let a = after_is (without_results 1 s) (λ x. after (without_levels n x) (λ u. if_collection u (Some x))) t is in
    let b = after_is (without_levels n a.0) (λ u. if_collection u (Some a.0)) t a.2 in
    let same : a.0 ≡ t = same_some (collection_same b.0 (Some a.0) t b.2) in
    omega (arith, results_fewer 1 s a.0 a.1, ap collections same)

results_same : (m : ℕ) (s : Shape) → collections (results m s) ≡ collections s
results_same zero s = refl
results_same (suc m) s = omega (arith, results_same m s)

begun_most : (k : Kind) → is_begun k ≤ 1
begun_most AResult = omega arith
begun_most ACollection = omega arith
begun_most AnIterator = omega arith
begun_most APairIterator = omega arith

lead_few : (o : Option Shape) (f : Shape → List (ℕ × Shape)) (n : ℕ) (os : List (ℕ × Shape)) → ((x : Shape) → o ≡ Some x → FewOuts n (f x)) → lead o f ≡ Some os → FewOuts n os
lead_few o f n os each is = let a = lead_is o f os is in subst (FewOuts n) a.2 (each a.0 a.1)

next_few : (at to : ℕ) (s : Shape) (os : List (ℕ × Shape)) → next_outs at to s ≡ Some os → FewOuts (suc (collections s)) os
next_few at to [] os is = absurd (cc)
next_few at to (AResult ∷ s) os is = absurd (cc)
next_few at to (ACollection ∷ s) os is = absurd (cc)
next_few at to (AnIterator ∷ s) os is = subst (FewOuts (suc (collections (AnIterator ∷ s)))) (same_some is) (omega arith, (omega arith, tt))
next_few at to (APairIterator ∷ s) os is = subst (FewOuts (suc (collections (APairIterator ∷ s)))) (same_some is) (omega arith, (omega arith, tt))

leads_few : (e : Effect) (at : ℕ) (s : Shape) (os : List (ℕ × Shape)) → leads e at s ≡ Some os → FewOuts (suc (collections s)) os
leads_few (Results n m) at s os is = lead_few _ (λ x. (at, results m x) ∷ []) (suc (collections s)) os (λ x i. (omega (arith, results_same m x, results_fewer n s x i), tt)) is
leads_few (Puts n) at s os is = lead_few _ (λ x. (at, results 0 x) ∷ []) (suc (collections s)) os (λ x i. (omega (arith, puts_fewer n s x i), tt)) is
leads_few (Calls n m) at s os is = lead_few _ (λ x. (at, results (suc m) x) ∷ []) (suc (collections s)) os (λ x i. (omega (arith, results_same (suc m) x, results_fewer n s x i), tt)) is
leads_few (Begins n k) at s os is = lead_few _ (λ x. (at, plain_kind k ∷ x) ∷ []) (suc (collections s)) os (λ x i. (omega (arith, begun_most (plain_kind k), results_fewer n s x i), tt)) is
leads_few (Jumps to) at s os is = subst (FewOuts (suc (collections s))) (same_some is) (omega arith, tt)
leads_few (Tests to) at s os is = lead_few _ (λ x. (at, x) ∷ (to, x) ∷ []) (suc (collections s)) os (λ x i. (omega (arith, results_fewer 1 s x i), (omega (arith, results_fewer 1 s x i), tt))) is
leads_few (Decides to) at s os is = lead_few _ (λ x. (at, x) ∷ (to, AResult ∷ x) ∷ []) (suc (collections s)) os (λ x i. (omega (arith, results_fewer 1 s x i), (omega (arith, results_fewer 1 s x i), tt))) is
leads_few (Next to) at s os is = next_few at to s os is
leads_few (Adds n) at s os is = lead_few _ (λ x. (at, results 0 x) ∷ []) (suc (collections s)) os (λ x i. (omega (arith, adds_fewer n s x i), tt)) is
leads_few (Leaves n) at s os is = lead_few _ (λ x. (at, results 0 x) ∷ []) (suc (collections s)) os (λ x i. (omega (arith, levels_fewer n s x i), tt)) is
leads_few (Ends n) at s os is = lead_few _ (λ x. []) (suc (collections s)) os (λ x i. tt) is
leads_few Lacks at s os is = absurd (cc)

few_outs_more : (table : Table) (n : ℕ) (os : List (ℕ × Shape)) → n + unreached table ≤ length table → FewOuts (suc n) os → FewMore table os
few_outs_more table n [] few all = tt
few_outs_more table n (o ∷ os) few all = (omega (arith, few, all.0), few_outs_more table n os few all.1)

pub leads_more : (table : Table) (e : Effect) (at : ℕ) (s : Shape) (os : List (ℕ × Shape)) → collections s + unreached table ≤ length table → leads e at s ≡ Some os → FewMore table os
leads_more table e at s os few is = few_outs_more table (collections s) os few (leads_few e at s os is)
