-- One block more has its words.
use Rattle.std.proofs.Common.{◌≡◌, ℕ, ◌+◌, ◌<◌, List, Bool, length, get_or, slice_set, sym, subst}
use Rattle.std.proofs.lemmas.List.{get_or-set_same, get_or-set_other}
use Rattle.setl_live_reads.specs.declared.node.Node.{Node}
use Rattle.setl_live_reads.specs.Fronts.{IsFront, HasFronts}

module _ (nodes : List Node) (back : List Bool) (row : ℕ) (firsts gens passes : List ℕ) (at reads passed : ℕ) where
  pub fronts_here : at < length gens → at < length passes → (first end : ℕ) → first ≡ get_or firsts at (length nodes) → end ≡ get_or firsts (at + 1) (length nodes) → IsFront nodes back row end 0 first reads → IsFront nodes back row end 18446744073709551615 first passed → HasFronts nodes back row firsts (slice_set gens at reads) (slice_set passes at passed) at
  fronts_here within within2 first end first_is end_is gen pass = record {
    gen = subst (λ (w : ℕ). IsFront nodes back row (get_or firsts (at + 1) (length nodes)) 0 (get_or firsts at (length nodes)) w) (sym (get_or-set_same gens at reads 0 within)) (moved 0 reads gen);
    pass = subst (λ (w : ℕ). IsFront nodes back row (get_or firsts (at + 1) (length nodes)) 18446744073709551615 (get_or firsts at (length nodes)) w) (sym (get_or-set_same passes at passed 0 within2)) (moved 18446744073709551615 passed pass);
  }
    where
      moved : (behind word : ℕ) → IsFront nodes back row end behind first word → IsFront nodes back row (get_or firsts (at + 1) (length nodes)) behind (get_or firsts at (length nodes)) word
      moved behind word front = subst (λ (p : ℕ). IsFront nodes back row p behind (get_or firsts at (length nodes)) word) end_is (subst (λ (p : ℕ). IsFront nodes back row end behind p word) first_is front)

  pub fronts_other : (b : ℕ) → (b ≡ at → ⊥) → HasFronts nodes back row firsts gens passes b → HasFronts nodes back row firsts (slice_set gens at reads) (slice_set passes at passed) b
  fronts_other b other has = record {
    gen = subst (λ (w : ℕ). IsFront nodes back row (get_or firsts (b + 1) (length nodes)) 0 (get_or firsts b (length nodes)) w) (sym (get_or-set_other gens at b reads 0 other)) has.gen;
    pass = subst (λ (w : ℕ). IsFront nodes back row (get_or firsts (b + 1) (length nodes)) 18446744073709551615 (get_or firsts b (length nodes)) w) (sym (get_or-set_other passes at b passed 0 other)) has.pass;
  }
