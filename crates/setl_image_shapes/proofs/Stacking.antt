-- The stacks that runs make.
use Rattle.std.proofs.Common.{◌≡◌, ℕ, zero, suc, ◌+◌, ◌<◌, List, [], ◌∷◌, ◌++◌, length, get_or, Some, refl, sym, ap, ◌∙◌, subst, arith}
use Rattle.std.proofs.lemmas.List.{length-append, get_or_append_left}
use Rattle.std.proofs.Math.Seq.{get_or-append_seam}
use Rattle.setl_code.specs.Shapes.{Kind, Shape}
use Rattle.setl_image_shapes.specs.declared.stacks.Run.{Run}
use Rattle.setl_image_shapes.specs.Runs.{plain_kind, on, made, AreMade, Grown, IsAt, IsTop}

length_made : (found : List Shape) (rs : List Run) → length (made found rs) ≡ length found + length rs
length_made found [] = omega arith
length_made found (r ∷ rs) =
    let more = found ++ on (plain_kind r.kind) r.count (get_or found r.below []) ∷ [] in
    let e = length_made more rs in
    omega (arith, e, length-append found (on (plain_kind r.kind) r.count (get_or found r.below []) ∷ []))

-- what stands already stays
made_keeps : (found : List Shape) (rs : List Run) (k : ℕ) → k < length found → get_or (made found rs) k [] ≡ get_or found k []
made_keeps found [] k less = refl
made_keeps found (r ∷ rs) k less =
    let last = on (plain_kind r.kind) r.count (get_or found r.below []) ∷ [] in
    made_keeps (found ++ last) rs k (omega (arith, less, length-append found last)) ∙ get_or_append_left found last [] k less

-- one run more
made_more : (found : List Shape) (rs : List Run) (r : Run) → made found (rs ++ r ∷ []) ≡ made found rs ++ on (plain_kind r.kind) r.count (get_or (made found rs) r.below []) ∷ []
made_more found [] r = refl
made_more found (q ∷ rs) r = made_more (found ++ on (plain_kind q.kind) q.count (get_or found q.below []) ∷ []) rs r

are_more : (n : ℕ) (rs : List Run) (r : Run) → AreMade n rs → 0 < r.count → r.below < n + length rs → AreMade n (rs ++ r ∷ [])
are_more n [] r are some below = (some, omega (arith, below), tt)
are_more n (q ∷ rs) r are some below = (are.0, are.1, are_more (suc n) rs r are.2 some (omega (arith, below)))

-- what a run made
pub made_at : (found : List Shape) (rs : List Run) (k : ℕ) (d : Run) → AreMade (length found) rs → k < length rs → (0 < (get_or rs k d).count) × ((get_or rs k d).below < length found + k) × (get_or (made found rs) (length found + k) [] ≡ on (plain_kind (get_or rs k d).kind) (get_or rs k d).count (get_or (made found rs) (get_or rs k d).below []))
made_at found [] k d are less = absurd (omega (arith, less))
made_at found (r ∷ rs) zero d are less =
    let top = on (plain_kind r.kind) r.count (get_or found r.below []) in
    let wide : length found < length (found ++ top ∷ []) = omega (arith, length-append found (top ∷ [])) in
    let same : length found + 0 ≡ length found = omega arith in
    (are.0, omega (arith, are.1), ap (λ i. get_or (made (found ++ top ∷ []) rs) i []) same ∙ made_keeps (found ++ top ∷ []) rs (length found) wide ∙ get_or-append_seam found top [] [] ∙ ap (λ s. on (plain_kind r.kind) r.count s) (sym (made_keeps found (r ∷ rs) r.below are.1)))
made_at found (r ∷ rs) (suc k) d are less =
    let top = on (plain_kind r.kind) r.count (get_or found r.below []) in
    let long : length (found ++ top ∷ []) ≡ suc (length found) = omega (arith, length-append found (top ∷ [])) in
    let rest = made_at (found ++ top ∷ []) rs k d (subst (λ n. AreMade n rs) (sym long) are.2) (omega (arith, less)) in
    let same : length found + suc k ≡ length (found ++ top ∷ []) + k = omega (arith, long) in
    (rest.0, omega (arith, rest.1, long), ap (λ i. get_or (made (found ++ top ∷ []) rs) i []) same ∙ rest.2)

pub grown_one : (stacks : List Shape) (s : Shape) → Grown stacks (stacks ++ s ∷ [])
grown_one stacks s k less = (omega (arith, less, length-append stacks (s ∷ [])), get_or_append_left stacks (s ∷ []) [] k less)

pub stands_last : (stacks : List Shape) (s : Shape) (k : ℕ) → k ≡ length stacks → IsAt (stacks ++ s ∷ []) k s
stands_last stacks s k is = (omega (arith, is, length-append stacks (s ∷ [])), rw is (get_or-append_seam stacks s [] []))

-- ---- a run is pushed

pub push_are : (view : List Shape) (rs more : List Run) (r : Run) → view ≡ made ([] ∷ []) rs → AreMade 1 rs → more ≡ rs ++ r ∷ [] → 0 < r.count → r.below < length view → AreMade 1 more
push_are view rs more r is are then some below =
    let long = length_made ([] ∷ []) rs in
    subst (AreMade 1) (sym then) (are_more 1 rs r are some (omega (arith, below, ap length is, long)))

view_more : (view : List Shape) (rs more : List Run) (r : Run) → view ≡ made ([] ∷ []) rs → more ≡ rs ++ r ∷ [] → made ([] ∷ []) more ≡ view ++ on (plain_kind r.kind) r.count (get_or view r.below []) ∷ []
view_more view rs more r is then = ap (made ([] ∷ [])) then ∙ made_more ([] ∷ []) rs r ∙ ap (λ (v : List Shape). v ++ on (plain_kind r.kind) r.count (get_or v r.below []) ∷ []) (sym is)

pub push_grows : (view : List Shape) (rs more : List Run) (r : Run) → view ≡ made ([] ∷ []) rs → more ≡ rs ++ r ∷ [] → Grown view (made ([] ∷ []) more)
push_grows view rs more r is then = subst (Grown view) (sym (view_more view rs more r is then)) (grown_one view (on (plain_kind r.kind) r.count (get_or view r.below [])))

pub push_stands : (view : List Shape) (rs more : List Run) (r : Run) (k : ℕ) → view ≡ made ([] ∷ []) rs → more ≡ rs ++ r ∷ [] → k ≡ length more → IsAt (made ([] ∷ []) more) k (on (plain_kind r.kind) r.count (get_or view r.below []))
push_stands view rs more r k is then last =
    let long = length_made ([] ∷ []) rs in
    let here : k ≡ length view = omega (arith, last, ap length then, length-append rs (r ∷ []), ap length is, long) in
    subst (λ v. IsAt v k (on (plain_kind r.kind) r.count (get_or view r.below []))) (sym (view_more view rs more r is then)) (stands_last view (on (plain_kind r.kind) r.count (get_or view r.below [])) k here)

-- ---- the top of a stack

pub empty_is : (view : List Shape) (rs : List Run) → view ≡ made ([] ∷ []) rs → get_or view 0 [] ≡ []
empty_is view rs is = ap (λ (v : List Shape). get_or v 0 []) is ∙ made_keeps ([] ∷ []) rs 0 (omega arith)

pub run_is_top : (view : List Shape) (rs : List Run) (k j : ℕ) (d : Run) → view ≡ made ([] ∷ []) rs → AreMade 1 rs → k < length view → k ≡ suc j → IsTop view k (Some (get_or rs j d))
run_is_top view rs k j d is are less at =
    let long = length_made ([] ∷ []) rs in
    let within : j < length rs = omega (arith, less, at, ap length is, long) in
    let m = made_at ([] ∷ []) rs j d are within in
    let same : k ≡ 1 + j = omega (arith, at) in
    rw is (m.0, omega (arith, m.1, long, within), ap (λ i. get_or (made ([] ∷ []) rs) i []) same ∙ m.2)

pub length_of : (view : List Shape) (rs : List Run) → view ≡ made ([] ∷ []) rs → length view ≡ 1 + length rs
length_of view rs is = ap length is ∙ length_made ([] ∷ []) rs

-- ---- lengths

pub length_on : (k : Kind) (n : ℕ) (s : Shape) → length (on k n s) ≡ n + length s
length_on k zero s = omega arith
length_on k (suc n) s = omega (arith, length_on k n s)
