-- What becomes of advice.
use Rattle.std.proofs.Common.{◌≡◌, ◌^◌, inl, ℕ, List, [], ◌∷◌, ◌++◌, refl, subst}
use Rattle.setl_io.specs.Files.{IsText}
use Rattle.setl_tree.specs.declared.tree.Tree.{Tree}
use Rattle.setl_top_status.specs.Reasons.{reason_line}
use Rattle.setl_top_status.specs.Seen.{Seen, SeenFiles}
use Rattle.setl_top_status.specs.code.Loads.{HasText, IsStill}
use Rattle.setl_top_status.specs.declared.status.Status.{Status}
use Rattle.setl_top_status.specs.declared.status.Status.TheVariants.{Refused}
use Rattle.setl_top.specs.Accepted.{IsProgram}
use Rattle.setl_top.specs.Headline.{IsOfProgram, IsToAdvise, IsToLoad, LoadsAsked, refused, advised, has_repr, in_advice, Headline}
use Rattle.setl_top.specs.Outside.{Outside}
use Rattle.setl_top.specs.code.Advises.{WritesAdvice, advised_so, starved_of_advice, AdvisesText, of_program, of_declared, of_refused, not_read_through, Advises, of_source, no_source}
use Rattle.setl_top.proofs.Ends.{loads, starved, told_alone, written_ends, not_loaded}
use Rattle.setl_top_words.specs.Words.{Spells, Advise}

-- after a load that told nothing
pub advised_then : (name : List ℕ) (files files' : SeenFiles) (out out' err mid err' : Seen (List ℕ)) → IsStill name files files' err mid → (source : List ℕ) → HasText (2 ^ 24) files.held name source → (ends : Status) → AdvisesText source out out' mid err' ends → Advises name files files' out out' err err' ends
advised_then name files files' out out' err mid err' still source t ends w =
    of_source source ends t.text still.load (subst (λ (o : Seen (List ℕ)). AdvisesText source out out' o err' ends) still.same w)

module _ (words : List (List ℕ)) (before after : Outside) (name : List ℕ) (s : Spells words (Advise name)) (same : after.input ≡ before.input) where
  -- the words ask for advice for this program
  abbrev is_asked : (source : List ℕ) (tree : Tree) → IsText before.files.held name source → IsProgram source tree → IsOfProgram words before Advise
  is_asked source tree t p = record { name = name; source = source; tree = tree; spelled = s; text = t; is_program = p }

  -- advice that was to be written
  advice_ends : (source : List ℕ) (tree : Tree) → IsText before.files.held name source → IsProgram source tree → LoadsAsked words before after → (r : Status) → WritesAdvice source tree before.output after.output before.error_output after.error_output r → Headline words before after r
  advice_ends source tree t p files r (advised_so text _ is written) =
      let a : IsToAdvise words before text = record { asked = is_asked source tree t p; is_advised = is } in
      written_ends words before after text (advised text a) (λ n. in_advice text n a) same files r written
  advice_ends source tree t p files _ (starved_of_advice none h) = starved words before after (inl files) (record { input = same; output = none }) h

  -- a source for which advice was asked for
  text_ends : (source : List ℕ) → IsText before.files.held name source → LoadsAsked words before after → (r : Status) → AdvisesText source before.output after.output before.error_output after.error_output r → Headline words before after r
  text_ends source t files r (of_program tree _ p w) = advice_ends source tree t p files r w
  text_ends source t files r (of_declared tree line _ p has none told) =
      told_alone words before after Refused (line ++ 10 ∷ []) (λ e. e) (has_repr line (is_asked source tree t p) has) files (record { input = same; output = none }) r told
  text_ends source t files r (of_refused why _ refused_so none told) =
      let line : List ℕ = reason_line why in
      let load : IsToLoad words before name = record { command = Advise name; spelled = s; file = refl; there = tt } in
      told_alone words before after Refused (line ++ 10 ∷ []) (λ e. e) (refused line (record { name = name; source = source; asked = load; tells = tt; text = t; refusal = record { reason = why; refused = refused_so; tells = refl } })) files (record { input = same; output = none }) r told
  text_ends source t files _ (not_read_through none h) = starved words before after (inl files) (record { input = same; output = none }) h

  -- advice for a file, which leaves the input alone
  pub advise_ends : (r : Status) → Advises name before.files after.files before.output after.output before.error_output after.error_output r → Headline words before after r
  advise_ends r (of_source source _ t once w) = text_ends source t (loads words before after (Advise name) name s refl tt once) r w
  advise_ends r (no_source _ h none) = not_loaded words before after (Advise name) name s refl tt tt (record { input = same; output = none }) r h
