-- The loop that looks in an index: it follows what looking is.
use Rattle.std.proofs.Common.{◌≡◌, ◌<◌, ℕ, zero, suc, ◌+◌, ◌||◌, Bool, false, List, [], ◌∷◌, ◌++◌, length, Option, Some, None, Ok, pos, refl, sym, ap, ◌∙◌, subst, arith, length-append}
use Rattle.std.specs.Prelude.{slice_get}
use Rattle.std.specs.Ordering.{int_eq}
use Rattle.std.proofs.lemmas.Bool.Decides.{nat_tests}
use Rattle.std.proofs.lemmas.List.{length-map}
use Rattle.csub_tree.specs.State.{Value, Word, Flag, Core}
use Rattle.csub_tree.specs.Layout.{shape_at, shape_over}
use Rattle.csub_tree.specs.Operation.{is_unset, binary_of}
use Rattle.csub_tree.specs.Statement.{read}
use Rattle.csub_tree.specs.declared.tree.CBinary.TheVariants as binary
use Rattle.ll_code.specs.Machine.{shapes_of}
use Rattle.ll_code.specs.State.{Frame, State, At}
use Rattle.ll_code.specs.declared.program.LlType.{LlType}
use Rattle.ll_code.specs.declared.program.LlOp.{LlOp}
use Rattle.ll_code.specs.declared.program.LlProgram.{LlProgram}
use Rattle.ll_leads.specs.Path.{Leads}
use Rattle.ll_leads.proofs.Ways.{Comes, on, many, gives}
use Rattle.ll_texts.specs.Texts.{found}
use Rattle.rtyper_dict.specs.declared.parts.DictShape.{DictShape}
use Rattle.rtyper_dict.specs.Looking.{find_graph, find_blocks, find_asks, find_starts, find_probes, find_reads, find_compares}
use Rattle.list_shape.specs.Shapes.{gives as gives_block}
use Rattle.dict_laws.specs.Index.{next, Holds, Looks, missed, met, passed}
use Rattle.dict_laws.proofs.Words.{next_below, is_below}
use Rattle.object_laws.specs.Dicts.{items_block, index_values}
use Rattle.object_laws.proofs.Blocks.{reads_item}
use Rattle.dict_find_laws.specs.Finding.{place_word}

-- ---- words

pub read_word : (words : List ℕ) (rest : List Value) (at w : ℕ) → slice_get words at ≡ Some w → read (index_values words ++ rest) at ≡ Word (pos w)
read_word [] rest at w h = absurd (cc)
read_word (z ∷ words) rest zero w h = (let q : z ≡ w = cc in ap (λ n. Word (pos n)) q)
read_word (z ∷ words) rest (suc at) w h = read_word words rest at w h

pub read_behind : (words : List ℕ) (rest : List Value) (i : ℕ) → read (index_values words ++ rest) (length words + i) ≡ read rest i
read_behind [] rest i = ap (read rest) (let q : 0 + i ≡ i = omega arith in q)
read_behind (z ∷ words) rest i = ap (read (index_values (z ∷ words) ++ rest)) (let q : suc (length words) + i ≡ suc (length words + i) = omega arith in q) ∙ read_behind words rest i

not_empty : (entry : ℕ) → binary_of binary.Eq (Word (pos (suc entry))) (Word (pos 0)) ≡ Ok (Flag false)
not_empty entry = ap (λ b. Ok (Flag b)) (let e : int_eq (pos (suc entry)) (pos 0) ≡ false = grind (arith, nat_tests) in e)

-- ---- the loop

-- what stands in the other variables
pub record Others : Type 0 where
  pub v2 : Value
  pub v3 : Value
  pub v6 : Value
  pub v8 : Value
  pub v11 : Value
  pub v12 : Value
  pub v13 : Value
  pub v14 : Value
  pub v15 : Value
  pub v16 : Value
  pub v17 : Value

module _ (p : LlProgram) (args : List (List ℕ)) (f hashes : ℕ) (d : DictShape) (types : List LlType) (test : LlOp) (core : Core) (head x v4 two : Value) (size mask : ℕ) where
  abbrev pub Graph : Type 0
  Graph = slice_get p.graphs f ≡ Some (find_graph hashes 17 d (record { types = types; ops = find_reads d ++ test ∷ [] }))

  -- before the word at a place is read
  abbrev pub probing : ℕ → Others → List Frame → State
  probing at r waits = At (find_probes d).ops (find_probes d).exit waits (record core {
    function = f;
    block = 3;
    at = 0;
    vars = head ∷ x ∷ r.v2 ∷ r.v3 ∷ v4 ∷ two ∷ r.v6 ∷ Word (pos size) ∷ r.v8 ∷ Word (pos mask) ∷ Word (pos at) ∷ r.v11 ∷ r.v12 ∷ r.v13 ∷ r.v14 ∷ r.v15 ∷ r.v16 ∷ r.v17 ∷ [];
  })

  -- where the word names an entry
  abbrev pub comparing : ℕ → ℕ → Others → List Frame → State
  comparing at entry r waits = At (find_compares 17 (find_reads d ++ test ∷ [])).ops (find_compares 17 (find_reads d ++ test ∷ [])).exit waits (record core {
    function = f;
    block = 4;
    at = 0;
    vars = head ∷ x ∷ r.v2 ∷ Flag false ∷ v4 ∷ two ∷ r.v6 ∷ Word (pos size) ∷ r.v8 ∷ Word (pos mask) ∷ Word (pos at) ∷ Word (pos (suc entry)) ∷ r.v12 ∷ r.v13 ∷ r.v14 ∷ r.v15 ∷ r.v16 ∷ r.v17 ∷ [];
  })

  -- and where its key was compared
  abbrev pub compared : ℕ → ℕ → Bool → Others → Value × Value → List Frame → State
  compared at entry b r k waits = At [] (find_compares 17 (find_reads d ++ test ∷ [])).exit waits (record core {
    function = f;
    block = 4;
    at = 6;
    vars = head ∷ x ∷ r.v2 ∷ Flag false ∷ v4 ∷ two ∷ r.v6 ∷ Word (pos size) ∷ r.v8 ∷ Word (pos mask) ∷ Word (pos at) ∷ Word (pos (suc entry)) ∷ Word (pos entry) ∷ k.0 ∷ k.1 ∷ Word (pos (at + 1)) ∷ Word (pos (next size at)) ∷ Flag b ∷ [];
  })

  module _ (has : ℕ → Bool) (count : ℕ) where
    abbrev pub Compares : Type 0
    Compares = (at entry : ℕ) (r : Others) (waits : List Frame) → at < size → entry < count → (k : Value × Value) × Leads p args 0 (comparing at entry r waits) [] (compared at entry (has entry) r k waits)

    module _ (graph : Graph) (x_set : is_unset x ≡ false) (v4_set : is_unset v4 ≡ false) (two_set : is_unset two ≡ false) (words : List ℕ) (long : length words ≡ size) (rest : List Value)
        (second_is : found core.blocks core.statics two ≡ Some (items_block d.second (index_values words ++ rest))) (shape : shape_at (shapes_of p.structs) d.second ≡ shape_over d.second 1 None)
        (known : (at entry : ℕ) → Holds words at entry → entry < count) (compares : Compares) (waits : List Frame) where
      sets : is_unset x || (is_unset v4 || (is_unset two || false)) ≡ false
      sets = ap (λ b. b || (is_unset v4 || (is_unset two || false))) x_set ∙ ap (λ b. b || (is_unset two || false)) v4_set ∙ ap (λ b. b || false) two_set

      inside : (at w : ℕ) → slice_get words at ≡ Some w → at < length (index_values words ++ rest)
      inside at w h = (let l = length-append (index_values words) rest in let k = length-map words (λ (n : ℕ). Word (pos n)) in let i = is_below words at w h in omega (arith, l, k, i))

      to_compare : (at entry : ℕ) (r : Others) → Holds words at entry → Leads p args 0 (probing at r waits) [] (comparing at entry (record r { v11 = Word (pos (suc entry)); v3 = Flag false }) waits)
      unfolding find_graph find_blocks find_asks find_starts find_probes find_reads find_compares
      to_compare at entry r h =
          on (reads_item 1 (items_block d.second (index_values words ++ rest)) (Word (pos (suc entry))) shape second_is refl refl at refl (inside at (suc entry) h) (read_word words rest at (suc entry) h))
          (on (gives (Flag false) (not_empty entry)) (many 1 graph refl sets))

      pub looks : (at : ℕ) (found : Option ℕ) (r : Others) → Looks words has at found → at < size → Comes p args (probing at r waits) [] (place_word found) waits core
      unfolding find_graph find_blocks find_asks find_starts find_probes find_reads find_compares gives_block
      looks _ _ r (missed at h) lt = record {
        end = _;
        same = refl;
        leads = on (reads_item 1 (items_block d.second (index_values words ++ rest)) (Word (pos 0)) shape second_is refl refl at refl (inside at 0 h) (read_word words rest at 0 h)) (many 3 graph refl refl);
      }
      looks _ _ r (met at entry h t) lt =
          let it = compares at entry (record r { v11 = Word (pos (suc entry)); v3 = Flag false }) waits lt (known at entry h) in
          let way = subst (λ b. Leads p args 0 (comparing at entry (record r { v11 = Word (pos (suc entry)); v3 = Flag false }) waits) [] (compared at entry b (record r { v11 = Word (pos (suc entry)); v3 = Flag false }) it.0 waits)) t it.1 in
          record { end = _; same = refl; leads = on (to_compare at entry r h) (on way (many 2 graph refl refl)) }
      looks _ _ r (passed at entry end h t more) lt =
          let it = compares at entry (record r { v11 = Word (pos (suc entry)); v3 = Flag false }) waits lt (known at entry h) in
          let way = subst (λ b. Leads p args 0 (comparing at entry (record r { v11 = Word (pos (suc entry)); v3 = Flag false }) waits) [] (compared at entry b (record r { v11 = Word (pos (suc entry)); v3 = Flag false }) it.0 waits)) t it.1 in
          let others : Others = record { v2 = r.v2; v3 = Flag false; v6 = r.v6; v8 = r.v8; v11 = Word (pos (suc entry)); v12 = Word (pos entry); v13 = it.0.0; v14 = it.0.1; v15 = Word (pos (at + 1)); v16 = Word (pos (next size at)); v17 = Flag false } in
          let go = subst (λ n. Comes p args (probing (next n at) others waits) [] (place_word end) waits core) long (looks (next (length words) at) end others more (subst (λ n. next n at < size) (sym long) (next_below size at lt))) in
          record { end = go.end; same = go.same; leads = on (to_compare at entry r h) (on way (on (many 1 graph refl sets) go.leads)) }
