-- Pages of values, and the pages of data that they stand for.
use Rattle.std.specs.Prelude.{◌≡◌, ℕ, zero, suc, ◌<◌, List, [], ◌∷◌, ◌++◌, Some, length, take, drop, map, refl, slice_get, slice_index_or, slice_set}
use Rattle.std.specs.List.{AllByRecursion, AllZip}
use Rattle.std.specs.Option.{option_map}
use Rattle.std.proofs.Common.{arith, ap, sym, ◌∙◌, subst, Result, Ok, Err, OnErr}
use Rattle.std.proofs.lemmas.List.{drop-map, length-map, map-append, take-map}
use Rattle.std.proofs.lemmas.Option.{slice_get-map}
use Rattle.setl_value_pages.specs.Exchange.{Exchanges, page_sizes, put_size}
use Rattle.setl_value_pages.specs.PageLaws.{Shared, page_was}
use Rattle.setl_value_pages.specs.PageLaws as pages
use Rattle.setl_value_pages.specs.Pages.{IsIn, IsPage, items, joined, page_at}
use Rattle.setl_value.specs.declared.Value.{Value}
use Rattle.setl_value.specs.code.Body.{Body}
use Rattle.setl_value.specs.code.DatumOf.{datum, page}
use Rattle.setl_value.specs.Datum.{Datum}

-- ---- each item of the pages becomes another

module _ {X Y : Type 0} (f : X → Y) where
  joined_map : (ps : List (List X)) → joined (map (map f) ps) ≡ map f (joined ps)
  joined_map [] = refl
  joined_map (p ∷ ps) = ap (λ l. map f p ++ l) (joined_map ps) ∙ sym (map-append f p (joined ps))

  page_map : (ps : List (List X)) (k : ℕ) → page_at (map (map f) ps) k ≡ map f (page_at ps k)
  page_map [] zero = refl
  page_map [] (suc k) = refl
  page_map (p ∷ ps) zero = refl
  page_map (p ∷ ps) (suc k) = page_map ps k

  pages_map : (ps : List (List X)) → AllByRecursion IsPage ps → AllByRecursion IsPage (map (map f) ps)
  pages_map [] a = tt
  pages_map (p ∷ ps) a = ((omega (arith, a.0.0, length-map p f), omega (arith, a.0.1, length-map p f)), pages_map ps a.1)

  pages_unmap : (ps : List (List X)) → AllByRecursion IsPage (map (map f) ps) → AllByRecursion IsPage ps
  pages_unmap [] a = tt
  pages_unmap (p ∷ ps) a = ((omega (arith, a.0.0, length-map p f), omega (arith, a.0.1, length-map p f)), pages_unmap ps a.1)

  sizes_map : (ps : List (List X)) → page_sizes (map (map f) ps) ≡ page_sizes ps
  sizes_map [] = refl
  sizes_map (p ∷ ps) = λ n. length-map p f n ∷ sizes_map ps n

  exchanges_map : {ps new : List (List X)} {k i l j : ℕ} {xs : List X} → Exchanges ps new k i l j xs → Exchanges (map (map f) ps) (map (map f) new) k i l j (map f xs)
  exchanges_map {ps} {new} {k} {i} {l} {j} {xs} e = record {
    by = map (map f) e.by;
    pages = pages_map e.by e.pages;
    whole =
        joined_map e.by ∙ ap (map f) e.whole ∙ between f (page_at ps k) (page_at ps l) i j xs
        ∙ (λ n. take i (sym (page_map ps k) n) ++ (map f xs ++ drop j (sym (page_map ps l) n)));
    changed = ap (map (map f)) e.changed ∙ between (map f) ps ps k (suc l) e.by;
  }
    where
      between : {V W : Type 0} (g : V → W) (vs ws : List V) (a b : ℕ) (us : List V) → map g (take a vs ++ (us ++ drop b ws)) ≡ take a (map g vs) ++ (map g us ++ drop b (map g ws))
      between g vs ws a b us =
          map-append g (take a vs) (us ++ drop b ws) ∙ ap (λ m. map g (take a vs) ++ m) (map-append g us (drop b ws))
          ∙ (λ n. sym (take-map g a vs) n ++ (map g us ++ sym (drop-map g b ws) n))

-- ---- each value of the pages becomes the datum that it stands for

as_data : (xs : List (Shared Value)) → map page xs ≡ map (map datum) (map items xs)
as_data [] = refl
as_data (x ∷ xs) = ap (λ l. page x ∷ l) (as_data xs)

module _ (xs : List (Shared Value)) where
  pub joined_data : joined (map page xs) ≡ map datum (joined (map items xs))
  joined_data = ap joined (as_data xs) ∙ joined_map datum (map items xs)

  pub page_data : (k : ℕ) → page_at (map page xs) k ≡ map datum (page_at (map items xs) k)
  page_data k = ap (λ ps. page_at ps k) (as_data xs) ∙ page_map datum (map items xs) k

  pub size_data : (k : ℕ) → length (page_at (map page xs) k) ≡ length (page_at (map items xs) k)
  size_data k = ap length (page_data k) ∙ length-map (page_at (map items xs) k) datum

  pub are_pages : AllByRecursion IsPage (map items xs) → AllByRecursion IsPage (map page xs)
  are_pages a = subst (AllByRecursion IsPage) (sym (as_data xs)) (pages_map datum (map items xs) a)

  pub were_pages : AllByRecursion IsPage (map page xs) → AllByRecursion IsPage (map items xs)
  were_pages a = pages_unmap datum (map items xs) (subst (AllByRecursion IsPage) (as_data xs) a)

  pub was_in : (k i : ℕ) → IsIn (map page xs) k i → IsIn (map items xs) k i
  was_in k i h = (omega (arith, h.0, length-map xs page, length-map xs items), omega (arith, h.1, size_data k))

  pub item_data : (k i : ℕ) (v : Value) → slice_get (page_at (map items xs) k) i ≡ Some v → slice_get (page_at (map page xs) k) i ≡ Some (datum v)
  item_data k i v h = ap (λ p. slice_get p i) (page_data k) ∙ slice_get-map datum (page_at (map items xs) k) i ∙ ap (option_map datum) h

  module _ (ys : List (Shared Value)) where
    pub exchanges_data : {k i l j : ℕ} {vs : List Value} → Exchanges (map items xs) (map items ys) k i l j vs → Exchanges (map page xs) (map page ys) k i l j (map datum vs)
    exchanges_data {k} {i} {l} {j} {vs} e =
        subst (λ ps. Exchanges ps (map page ys) k i l j (map datum vs)) (sym (as_data xs))
        (subst (λ qs. Exchanges (map (map datum) (map items xs)) qs k i l j (map datum vs)) (sym (as_data ys)) (exchanges_map datum e))

    pub put_data : (k : ℕ) → page_sizes (map items ys) ≡ put_size (page_sizes (map items xs)) k → page_sizes (map page ys) ≡ put_size (page_sizes (map page xs)) k
    put_data k e =
        ap page_sizes (as_data ys) ∙ sizes_map datum (map items ys) ∙ e
        ∙ ap (λ ns. put_size ns k) (sym (ap page_sizes (as_data xs) ∙ sizes_map datum (map items xs)))

    pub same_data : map items ys ≡ map items xs → map page ys ≡ map page xs
    same_data e = as_data ys ∙ ap (map (map datum)) e ∙ sym (as_data xs)

-- a page that is lent, and that is put back as it was
pub lent_page : (xs : List (Shared Value)) (k : ℕ) (p : Shared Value) → k < length xs → p ≡ slice_index_or xs k p → page_at (map page xs) k ≡ page p
lent_page xs k p h e = page_data xs k ∙ ap (map datum) (page_was xs k p h e)

pub unwritten : (xs : List (Shared Value)) (k : ℕ) (p q : Shared Value) → k < length xs → p ≡ slice_index_or xs k p → q.value.items ≡ p.value.items → map page (slice_set xs k q) ≡ map page xs
unwritten xs k p q h e w = same_data xs (slice_set xs k q) (pages.unwritten xs k p q h e w)

-- what holds, holds where an error is handed on
pub still : {T E P : Type 0} (r : Result T E) → P → OnErr r P
still (Ok v) p = tt
still (Err e) p = p

-- shares of the same pages
pub cloned : (xs ys : List (Shared Value)) → AllZip (λ p copy. copy.value ≡ p.value) xs ys → map page ys ≡ map page xs
cloned [] [] h = refl
cloned [] (y ∷ ys) h = absurd h
cloned (x ∷ xs) [] h = absurd h
cloned (x ∷ xs) (y ∷ ys) h = λ k. map datum (h.0 k).items ∷ cloned xs ys h.1 k

-- the pages of a set
abbrev pub body_of : List (List Datum) → Body
body_of ps = record { pages = ps }
