-- Graphs that say whether a list, a dict or a string counts as true.
use Rattle.std.proofs.Common.{◌≡◌, ℕ, suc, ◌||◌, Bool, true, false, List, [], ◌∷◌, length, Some, None, Ok, pos, refl, ap, ◌∙◌, subst, arith}
use Rattle.std.specs.Prelude.{slice_get, not}
use Rattle.std.specs.Ordering.{int_eq}
use Rattle.std.proofs.lemmas.Bool.Decides.{nat_tests}
use Rattle.csub_tree.specs.Layout.{shape_at, shape_over}
use Rattle.csub_tree.specs.State.{Value, Word, Flag, Null, Core}
use Rattle.csub_tree.specs.Operation.{binary_of}
use Rattle.csub_tree.specs.declared.tree.CBinary.TheVariants as binary
use Rattle.rpy_tree.specs.Value.{Value as Meant, Text}
use Rattle.rpy_meaning.specs.Compare.{is_some_item}
use Rattle.ll_code.specs.Machine.{shapes_of}
use Rattle.ll_code.specs.State.{Frame, Calling}
use Rattle.ll_code.specs.declared.program.LlProgram.{LlProgram}
use Rattle.ll_code.specs.declared.program.LlType.{LlType}
use Rattle.ll_code.specs.declared.program.LlType.TheVariants as type
use Rattle.ll_leads.proofs.Ways.{Comes, on, many, enter, gives}
use Rattle.ll_build.specs.declared.needs.Helper.TheVariants as helper
use Rattle.ll_build.specs.declared.needs.Numbers.{Numbers}
use Rattle.ll_strings.specs.Laws.{HasHelper}
use Rattle.ll_texts.specs.Stands.{Stands, text, missing}
use Rattle.ll_texts.proofs.Numbers.{less_true, less_false}
use Rattle.ll_texts.proofs.Reading.{is_set, is_there, gets_length}
use Rattle.rtyper_layout.specs.declared.dicts.Mapping.{Mapping}
use Rattle.rtyper_layout.specs.declared.layout.Layout.{Layout}
use Rattle.rtyper_layout.specs.Layout.{mapping_at}
use Rattle.rtyper_data.specs.declared.small.Keyed.TheVariants as keyed
use Rattle.rtyper_data.specs.declared.small.Listed.TheVariants as listed
use Rattle.list_loops.specs.Loops as lists
use Rattle.rtyper_dict.specs.Graphs.{dict_graph}
use Rattle.rtyper_dict.specs.Listing as dicts
use Rattle.rtyper_dict.specs.Parts.{dict_at, dict_or, shape_of}
use Rattle.list_laws.specs.Asked.{HasList}
use Rattle.list_laws.proofs.Lengths.{HeadShape, HeadFound as ListFound}
use Rattle.dict_op_laws.specs.Asked.{HasKeyed}
use Rattle.dict_op_laws.proofs.Lengths.{HeadFound as DictFound}
use Rattle.object_laws.specs.Dicts.{dict_block}
use Rattle.object_laws.specs.Represents.{head_block}
use Rattle.object_laws.proofs.Blocks.{found_set, found_there, reads_field}

some_there : {A : Type 0} (items : List A) → binary_of binary.Ne (Word (pos (length items))) (Word (pos 0)) ≡ Ok (Flag (is_some_item items))
some_there [] = refl
some_there (v ∷ vs) = ap (λ b. Ok (Flag (not b))) (let e : int_eq (pos (suc (length vs))) (pos 0) ≡ false = grind (arith, nat_tests) in e)

module _ (p : LlProgram) (layout : Layout) (args : List (List ℕ)) (raised : ℕ → Value) (n f : ℕ) (has : HasList p layout raised (listed.Truth n) f) (core : Core) where
  pub no_list : (waits : List Frame) → Comes p args (Calling f (Null ∷ []) waits core) [] (Flag false) waits core
  unfolding lists.truth lists.truth_asks lists.truth_given
  no_list waits = record { end = _; same = refl; leads = on (enter has.graph refl) (on (gives (Flag true) refl) (many 2 has.graph refl refl)) }

  pub a_list : (x array : Value) (items : List Meant) → HeadShape p n → ListFound core x n (length items) array → (waits : List Frame) → Comes p args (Calling f (x ∷ []) waits core) [] (Flag (is_some_item items)) waits core
  unfolding lists.truth lists.truth_asks lists.truth_given
  a_list x array items shape is waits = record {
    end = _;
    same = refl;
    leads = on (enter has.graph refl) (on (gives (Flag false) (found_there core.blocks core.statics x _ is)) (on (many 1 has.graph refl (ap (λ b. b || false) (found_set core.blocks core.statics x _ is)))
        (on (reads_field 2 (head_block n (length items) array) (Word (pos (length items))) shape is refl refl 0 refl)
        (on (gives (Flag (is_some_item items)) (some_there items)) (many 1 has.graph refl refl)))));
  }

module _ (p : LlProgram) (layout : Layout) (args : List (List ℕ)) (n f : ℕ) (d : Mapping) (mapping : mapping_at layout.mappings n ≡ Some d) (has : HasKeyed p layout (keyed.Truth n) f) (core : Core) where
  graph_is : slice_get p.graphs f ≡ Some (dicts.truth (shape_of d))
  unfolding dict_graph dict_at
  graph_is = has.graph ∙ ap (λ o. Some (dicts.truth (dict_or n o))) mapping

  pub no_dict : (waits : List Frame) → Comes p args (Calling f (Null ∷ []) waits core) [] (Flag false) waits core
  unfolding dicts.truth dicts.truth_blocks dicts.truth_asks dicts.truth_counts
  no_dict waits = record { end = _; same = refl; leads = on (enter graph_is refl) (on (gives (Flag true) refl) (many 2 graph_is refl refl)) }

  pub a_dict : (x one two : Value) (places : ℕ) (pairs : List (Meant × Meant)) → shape_at (shapes_of p.structs) d.dict ≡ shape_over d.dict 4 None → DictFound core x d.dict (length pairs) places one two
      → (waits : List Frame) → Comes p args (Calling f (x ∷ []) waits core) [] (Flag (is_some_item pairs)) waits core
  unfolding dicts.truth dicts.truth_blocks dicts.truth_asks dicts.truth_counts shape_of
  a_dict x one two places pairs shape is waits = record {
    end = _;
    same = refl;
    leads = on (enter graph_is refl) (on (gives (Flag false) (found_there core.blocks core.statics x _ is)) (on (many 1 graph_is refl (ap (λ b. b || false) (found_set core.blocks core.statics x _ is)))
        (on (reads_field 4 (dict_block d.dict (length pairs) places one two) (Word (pos (length pairs))) shape is refl refl 0 refl)
        (on (gives (Flag (is_some_item pairs)) (some_there pairs)) (many 1 graph_is refl refl)))));
  }

-- whether the string has bytes
abbrev pub has_bytes : Meant → Bool
has_bytes (Text bytes) = is_some_item bytes
has_bytes other = false

module _ (p : LlProgram) (args : List (List ℕ)) (numbers : Numbers) (f : ℕ) (core : Core) (has : HasHelper p numbers helper.StrTruth f core) where
  of_pointer : (x : Value) (v : Meant) → Stands core.blocks core.statics (type.Ptr 0) x v → (waits : List Frame) → Comes p args (Calling f (x ∷ []) waits core) [] (Flag (has_bytes v)) waits core
  of_pointer x v (text y [] t) waits = record {
    end = _;
    same = refl;
    leads = on (enter has.graph refl) (on (gives (Flag false) (is_there t)) (on (many 1 has.graph refl (simp (is_set t))) (on (gets_length has.text t) (on (gives (Flag false) (less_false 0 0 (omega arith))) (many 1 has.graph refl refl)))));
  }
  of_pointer x v (text y (c ∷ bytes) t) waits = record {
    end = _;
    same = refl;
    leads = on (enter has.graph refl) (on (gives (Flag false) (is_there t)) (on (many 1 has.graph refl (simp (is_set t))) (on (gets_length has.text t) (on (gives (Flag true) (less_true 0 (length (c ∷ bytes)) (omega arith))) (many 1 has.graph refl refl)))));
  }
  of_pointer x v missing waits = record { end = _; same = refl; leads = on (enter has.graph refl) (many 3 has.graph refl refl) }

  pub a_text : (t : LlType) (x : Value) (v : Meant) → t ≡ type.Ptr 0 → Stands core.blocks core.statics t x v → (waits : List Frame) → Comes p args (Calling f (x ∷ []) waits core) [] (Flag (has_bytes v)) waits core
  a_text t x v e st = of_pointer x v (subst (λ t. Stands core.blocks core.statics t x v) e st)
