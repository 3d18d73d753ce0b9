-- The tests of the parts of modes as the code names them, and modes without their attributes.
use Rattle.std.specs.Prelude.{Bool, Option}
use Rattle.setl_tree.specs.declared.mode.Attribute.{Attribute}
use Rattle.setl_tree.specs.declared.mode.Core.{Core, fold-Core}
use Rattle.setl_modes_written.specs.declared.parts.Test.{Test}
use Rattle.setl_modes_written.specs.declared.parts.Test.TheVariants as test
use Rattle.setl_modes_written.specs.Written.{Written, core_step, mode_step, is_local, has_other_images}
use Rattle.setl_modes_written.specs.Tested.{is_for_variables, has_stray_attribute, has_stray_element}

-- a mode by its attribute
abbrev pub core_written : Core → Option Attribute → Written
core_written = fold-Core (Option Attribute → Written) Written core_step mode_step

-- whether a mode passes a test
abbrev pub passes : Test → Written → Bool
passes test.ForVariables m = is_for_variables m
passes test.Local m = is_local m
passes test.StrayAttribute m = has_stray_attribute m
passes test.StrayElement m = has_stray_element m
passes test.OtherImages m = has_other_images m
