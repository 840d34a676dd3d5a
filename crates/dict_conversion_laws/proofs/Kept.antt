-- What is asked for stands over more blocks.
use Rattle.std.proofs.Common.{◌≡◌, ℕ, List}
use Rattle.csub_tree.specs.State.{Value, Core}
use Rattle.ll_code.specs.declared.program.LlProgram.{LlProgram}
use Rattle.ll_build.specs.declared.needs.Numbers.{Numbers}
use Rattle.rtyper_layout.specs.declared.layout.Layout.{Layout}
use Rattle.rtyper_data.specs.declared.found.Found.{Found}
use Rattle.rtyper_data.specs.declared.small.Keyed.TheVariants as keyed
use Rattle.rtyper_data.specs.declared.small.Small.TheVariants as small
use Rattle.lower_laws.specs.Asked.{Ask, Help, Raise, Make}
use Rattle.conversion_laws.specs.Asked.{Has as HasConversion}
use Rattle.conversion_laws.proofs.Moving.{all_had, has_to_kept, helper_kept}
use Rattle.dict_find_laws.specs.Asked.{HasFind}
use Rattle.dict_change_laws.specs.Asked.{HasGrow}
use Rattle.dict_conversion_laws.specs.Asked.{Has, HasAll}

module _ (p : LlProgram) (layout : Layout) (numbers : Numbers) (raised : ℕ → Value) (before after : Core) (statics : after.statics ≡ before.statics) (steps : after.steps ≡ before.steps) where
  find_kept : {n f : ℕ} → HasFind p layout numbers raised before n f → HasFind p layout numbers raised after n f
  find_kept has = record {
    made = has.made;
    graph = has.graph;
    texts = λ h. helper_kept statics steps (has.texts h);
    tuples = λ q pointer other k. has_to_kept p layout numbers raised before after statics steps k (Make (small.Equal q q)) has.made (has.tuples q pointer other k);
    hashes = has.hashes;
  }

  grow_kept : {n f : ℕ} → HasGrow p layout numbers raised before n f → HasGrow p layout numbers raised after n f
  grow_kept has = record { made = has.made; graph = has.graph; least = helper_kept statics steps has.least; sizes = has.sizes; copies = has.copies; copies_second = has.copies_second; fills = has.fills; fills_second = has.fills_second; indexes = has.indexes }

  has_kept : (ask : Ask) (found : Found) → Has p layout numbers raised before ask found → Has p layout numbers raised after ask found
  has_kept (Help h) found has = helper_kept statics steps has
  has_kept (Raise h) found has = has
  has_kept (Make (small.Cast m n)) found has = λ k. has_to_kept p layout numbers raised before after statics steps k (Make (small.Cast m n)) found (has k)
  has_kept (Make (small.Keyed (keyed.Find n))) found has = find_kept has
  has_kept (Make (small.Keyed (keyed.Entry n))) found has = record { made = has.made; graph = has.graph; finds = find_kept has.finds; raises = has.raises }
  has_kept (Make (small.Keyed (keyed.Get n t))) found has = record {
    gets = record { made = has.gets.made; graph = has.gets.graph; reads = has.gets.reads; finds = find_kept has.gets.finds };
    converts = all_had (HasConversion p layout numbers raised before) (HasConversion p layout numbers raised after) (λ ask made h k. has_to_kept p layout numbers raised before after statics steps k ask made (h k)) _ _ has.converts;
  }
  has_kept (Make (small.Keyed (keyed.Store n))) found has = record { made = has.made; graph = has.graph; finds = find_kept has.finds; grows = grow_kept has.grows; adds = has.adds }
  has_kept (Make (small.Keyed _)) found has = has
  has_kept (Make _) found has = has

  pub all_kept : (asks : List Ask) (found : Found) → HasAll p layout numbers raised before asks found → HasAll p layout numbers raised after asks found
  all_kept asks found has = all_had (Has p layout numbers raised before) (Has p layout numbers raised after) has_kept asks found has
