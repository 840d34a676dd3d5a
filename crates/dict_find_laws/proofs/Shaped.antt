-- What the graphs that look into dicts are, where the keys are words or strings.
use Rattle.std.proofs.Common.{◌≡◌, ℕ, ◌||◌, ◌&&◌, Bool, true, false, [], ◌∷◌, ◌++◌, Some, refl, ap}
use Rattle.std.specs.Prelude.{not, if◌then◌else◌}
use Rattle.csub_tree.specs.declared.tree.CBinary.TheVariants as binary
use Rattle.csub_tree.specs.declared.tree.COperand.TheVariants.{Var}
use Rattle.ll_code.specs.declared.program.LlType.{LlType}
use Rattle.ll_code.specs.declared.program.LlType.TheVariants as type
use Rattle.ll_code.specs.declared.program.LlOp.{LlOp}
use Rattle.ll_code.specs.declared.program.LlOp.TheVariants as op
use Rattle.ll_build.specs.declared.needs.Helper.TheVariants as helper
use Rattle.rtyper_layout.specs.declared.dicts.Mapping.{Mapping}
use Rattle.rtyper_layout.specs.declared.layout.Layout.{Layout}
use Rattle.rtyper_layout.specs.Dicts.{first, second, is_plain}
use Rattle.rtyper_layout.specs.Layout.{mapping_at}
use Rattle.rtyper_data.specs.declared.found.Found.{Found}
use Rattle.rtyper_data.specs.declared.small.Keyed.TheVariants as keyed
use Rattle.rtyper_data.specs.Comparing.{equal}
use Rattle.rtyper_data.specs.Converting.{helped}
use Rattle.rtyper_data.specs.Finding.{helper_number}
use Rattle.rtyper_data.specs.Tuples.{variable_of}
use Rattle.rtyper_dict.specs.declared.parts.DictShape.{DictShape}
use Rattle.rtyper_dict.specs.Looking.{find, find_by_index, find_by_scan, find_graph, find_types, find_reads, is_key, scan_graph, scan_types, scan_reads}
use Rattle.rtyper_dict.specs.Parts.{dict_at, dict_or, keyed_number, shape_of}
use Rattle.dict_find_laws.specs.Asked.{compared}
use Rattle.std.proofs.Common.{◌∙◌, ap, false, length}
use Rattle.ll_code.specs.declared.program.LlGraph.{LlGraph}
use Rattle.std.specs.Prelude.{◌==◌, ◌&&◌}
use Rattle.rtyper_layout.specs.Layout.{is_tuple}
use Rattle.rtyper_data.specs.declared.small.Small.TheVariants as small
use Rattle.rtyper_data.specs.Comparing.{flag}
use Rattle.rtyper_data.specs.Converting.{by_small}
use Rattle.rtyper_data.specs.Finding.{small_number}
use Rattle.rtyper_data.specs.Seen.{Writing, writing}
use Rattle.rtyper_dict.specs.Looking.{scan_made, test_of}
use Rattle.rtyper_dict.specs.Parts.{variable_in}
use Rattle.list_shape.specs.Shapes.{taking}

-- whether the keys are plain, whether the values are, and the type of the keys
abbrev pub shaped : Mapping → Bool → Bool → LlType → DictShape
shaped m b c t = record {
  dict = m.dict;
  first = first m;
  second = second m;
  key = m.key;
  value = m.value;
  stored_key = if b then type.Signed else t;
  stored_value = if not b && c then type.Signed else m.value;
  keys_last = b;
  is_indexed = b || c;
}

pub shape_is : (layout : Layout) (n : ℕ) (m : Mapping) → mapping_at layout.mappings n ≡ Some m → dict_at layout n ≡ shaped m (is_plain m.key) (is_plain m.value) m.key
unfolding dict_at shape_of
shape_is layout n m h = ap (dict_or n) h

-- ---- comparisons

abbrev pub word_test : ℕ → ℕ → LlOp
word_test a r = op.Binary r binary.Eq (Var a) (Var 1)

abbrev pub text_test : ℕ → ℕ → ℕ → LlOp
text_test number a r = op.Call (Some r) number (Var a ∷ Var 1 ∷ [])

module _ (layout : Layout) (m : Mapping) (c : Bool) (made : Found) where
  pub compared_words : compared layout (shaped m true c type.Signed) made ≡ made
  unfolding is_key equal variable_of
  compared_words = refl

  pub compared_texts : compared layout (shaped m false c (type.Ptr 0)) made ≡ (helper_number helper.StrEqual made).1
  unfolding is_key equal variable_of helped
  compared_texts = refl

  pub find_words : (find layout (shaped m true c type.Signed) made).0
      ≡ find_graph (keyed_number (keyed.Hash type.Signed) made).0 17 (shaped m true c type.Signed) (record { types = find_types (shaped m true c type.Signed) ++ type.Bool ∷ []; ops = find_reads (shaped m true c type.Signed) ++ word_test 14 17 ∷ [] })
  unfolding find find_by_index is_key equal variable_of find_types
  find_words = refl

module _ (layout : Layout) (m : Mapping) (made : Found) where
  abbrev number : ℕ
  number = (helper_number helper.StrEqual made).0

  pub find_texts : (find layout (shaped m false true (type.Ptr 0)) made).0
      ≡ find_graph (keyed_number (keyed.Hash (type.Ptr 0)) (helper_number helper.StrEqual made).1).0 17 (shaped m false true (type.Ptr 0)) (record { types = find_types (shaped m false true (type.Ptr 0)) ++ type.Bool ∷ []; ops = find_reads (shaped m false true (type.Ptr 0)) ++ text_test number 14 17 ∷ [] })
  unfolding find find_by_index is_key equal variable_of helped find_types
  find_texts = refl

  pub scan_texts : (find layout (shaped m false false (type.Ptr 0)) made).0
      ≡ scan_graph 8 (shaped m false false (type.Ptr 0)) (record { types = scan_types (shaped m false false (type.Ptr 0)) ++ type.Bool ∷ []; ops = scan_reads (shaped m false false (type.Ptr 0)) ++ text_test number 6 8 ∷ [] })
  unfolding find find_by_scan is_key equal variable_of helped scan_types
  scan_texts = refl

-- ---- tuples

module _ (layout : Layout) (q : ℕ) (apart : (q == 0) ≡ false) (struct : is_tuple layout q ≡ true) where
  equal_is : (v : ℕ) (w : Writing) → equal layout (Var v) (type.Ptr q) (Var 1) (type.Ptr q) w ≡ by_small (small.Equal q q) type.Bool (Var v ∷ Var 1 ∷ []) w
  unfolding equal
  equal_is v w =
      ap (λ c. if c && c then helped helper.StrEqual type.Bool (Var v ∷ Var 1 ∷ []) w else if is_tuple layout q && is_tuple layout q then by_small (small.Equal q q) type.Bool (Var v ∷ Var 1 ∷ []) w else (flag false, w)) apart
      ∙ ap (λ c. if c && c then by_small (small.Equal q q) type.Bool (Var v ∷ Var 1 ∷ []) w else (flag false, w)) struct

  module _ (m : Mapping) (c : Bool) where
    abbrev d : DictShape
    d = shaped m false c (type.Ptr q)

    key_is : (v : ℕ) (w : Writing) → is_key layout d v w ≡ (length w.body.types, writing (small_number (small.Equal q q) w.found).1 (record { types = w.body.types ++ type.Bool ∷ []; ops = w.body.ops ++ text_test (small_number (small.Equal q q) w.found).0 v (length w.body.types) ∷ [] }))
    unfolding is_key variable_of by_small
    key_is v w = ap (variable_in type.Bool) (equal_is v w)

    pub compared_tuples : (made : Found) → compared layout d made ≡ (small_number (small.Equal q q) made).1
    compared_tuples made = ap (λ (made : ℕ × Writing). made.1.found) (key_is 14 (test_of (find_types d) (find_reads d) made))

  module _ (m : Mapping) (made : Found) where
    abbrev tuples_number : ℕ
    tuples_number = (small_number (small.Equal q q) made).0

    abbrev d_find : DictShape
    d_find = shaped m false true (type.Ptr q)

    abbrev d_scan : DictShape
    d_scan = shaped m false false (type.Ptr q)

    abbrev find_from : ℕ × Writing → LlGraph × Found
    find_from made = taking made (λ test w. taking (keyed_number (keyed.Hash (type.Ptr q)) w.found) (λ hashes all. (find_graph hashes test d_find w.body, all)))

    pub find_tuples : (find layout d_find made).0
        ≡ find_graph (keyed_number (keyed.Hash (type.Ptr q)) (small_number (small.Equal q q) made).1).0 17 d_find (record { types = find_types d_find ++ type.Bool ∷ []; ops = find_reads d_find ++ text_test tuples_number 14 17 ∷ [] })
    unfolding find find_by_index find_types
    find_tuples = ap (λ (made : ℕ × Writing). (find_from made).0) (key_is m true 14 (test_of (find_types d_find) (find_reads d_find) made))

    pub scan_tuples : (find layout d_scan made).0
        ≡ scan_graph 8 d_scan (record { types = scan_types d_scan ++ type.Bool ∷ []; ops = scan_reads d_scan ++ text_test tuples_number 6 8 ∷ [] })
    unfolding find find_by_scan scan_types
    scan_tuples = ap (λ (made : ℕ × Writing). (scan_made d_scan made).0) (key_is m false 6 (test_of (scan_types d_scan) (scan_reads d_scan) made))
