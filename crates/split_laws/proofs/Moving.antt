-- What stands at its numbers does so over the same statics, with as many steps.
use Rattle.std.proofs.Common.{◌≡◌, ℕ, [], sym, ap, ◌∙◌, subst, arith}
use Rattle.csub_tree.specs.State.{Value, Core}
use Rattle.csub_tree.specs.Layout.{constant}
use Rattle.ll_code.specs.declared.program.LlProgram.{LlProgram}
use Rattle.ll_build.specs.declared.needs.Helper.{Helper}
use Rattle.ll_build.specs.declared.needs.Numbers.{Numbers}
use Rattle.ll_strings.specs.Laws.{HasHelper}
use Rattle.ll_texts.specs.Texts.{HasStatics, found}
use Rattle.rtyper_layout.specs.declared.layout.Layout.{Layout}
use Rattle.list_texts.specs.Splitting.{empty}
use Rattle.split_laws.specs.Asked.{HasPart, HasSplit}

pub helper_moves : (p : LlProgram) (numbers : Numbers) (h : Helper) (f : ℕ) (core mid : Core) → mid.statics ≡ core.statics → mid.steps ≡ core.steps → HasHelper p numbers h f core → HasHelper p numbers h f mid
helper_moves p numbers h f core mid statics steps has = record {
  graph = has.graph;
  shared = has.shared;
  text = has.text;
  statics = λ named. subst (λ s. HasStatics p numbers.table s) (sym statics) (has.statics named);
  small = (let s = has.small in omega (arith, s, steps));
}

module _ (p : LlProgram) (layout : Layout) (numbers : Numbers) (raised : ℕ → Value) (core mid : Core) (statics : mid.statics ≡ core.statics) (steps : mid.steps ≡ core.steps) where
  pub part_moves : (f : ℕ) → HasPart p layout numbers raised core f → HasPart p layout numbers raised mid f
  part_moves f has = record {
    made = has.made;
    graph = has.graph;
    nothing = ap (λ s. found [] s (constant (empty has.made).0)) statics ∙ has.nothing;
    letter = helper_moves p numbers _ _ core mid statics steps has.letter;
    copies = has.copies;
  }

  pub split_moves : (n f : ℕ) → HasSplit p layout numbers raised core n f → HasSplit p layout numbers raised mid n f
  split_moves n f has = record { made = has.made; graph = has.graph; makes = has.makes; parts = part_moves _ has.parts }
