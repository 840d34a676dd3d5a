-- The graph that makes the list of arguments gives it, and memory represents the heap with it.
use Rattle.std.proofs.Common.{◌≡◌, ◌<◌, ℕ, suc, ◌+◌, ◌^◌, List, [], ◌∷◌, ◌++◌, length, map, Option, Some, None, pos, refl, sym, ap, ◌∙◌, subst, arith, append_assoc, length-append}
use Rattle.std.specs.Prelude.{slice_get}
use Rattle.std.proofs.lemmas.List.{length-map}
use Rattle.csub_tree.specs.State.{Value, Unset, Word, Ptr, Block, Core}
use Rattle.csub_tree.specs.Layout.{shape_at, shape_over}
use Rattle.ll_code.specs.Machine.{shapes_of}
use Rattle.ll_code.specs.State.{Frame, Calling, Returning}
use Rattle.ll_code.specs.declared.program.LlProgram.{LlProgram}
use Rattle.ll_leads.specs.Memory.{forgotten}
use Rattle.ll_leads.specs.Path.{Leads}
use Rattle.ll_leads.proofs.Joined.{leads_then, leads_more}
use Rattle.ll_leads.proofs.Ways.{on, one, many, enter}
use Rattle.ll_texts.specs.Follows.{text_blocks}
use Rattle.ll_texts.specs.Texts.{text_block}
use Rattle.rpy_tree.specs.Value.{Heap, Listed, Text}
use Rattle.rtyper_layout.specs.declared.layout.Layout.{Layout}
use Rattle.rtyper_layout.specs.Types.{word}
use Rattle.list_shape.specs.Shapes.{shape_of}
use Rattle.list_texts.specs.Arguments.{arguments_graph, types, start, asks, first_blocks, last_blocks}
use Rattle.list_laws.proofs.Copying.{array_with}
use Rattle.list_laws.proofs.Making.{raw_array, made_list}
use Rattle.list_copy_laws.proofs.Fresh.{raw}
use Rattle.object_laws.specs.Done.{HasLayout}
use Rattle.object_laws.specs.Ghost.{Ghost, use_of, Stays, ListOf}
use Rattle.object_laws.specs.Known.{Known}
use Rattle.object_laws.specs.Represents.{Represents, head_block, array_block}
use Rattle.object_laws.specs.Values.{EachHolds, Empty, More, Plain, Stands, text}
use Rattle.object_laws.proofs.Blocks.{reads_field}
use Rattle.object_laws.proofs.Calling.{Returns, calls_back}
use Rattle.object_laws.proofs.Made.{get_first}
use Rattle.dict_find_laws.proofs.Brought.{block_behind, pointers_long}
use Rattle.dict_find_laws.proofs.Pairing.{pointers}
use Rattle.argument_laws.specs.Arguments.{AreTexts, AreTextLists, ArgumentsAreListed, CanBeGiven, GaveList, HasArguments}
use Rattle.argument_laws.proofs.Filling.{Others, asking, fills}
use Rattle.split_laws.proofs.Listed.{text_use_is, texts_grown, texts_listed, with_texts}

module _ (p : LlProgram) (layout : Layout) (known : Known) (args : List (List ℕ)) (n f : ℕ) (waits : List Frame) (core : Core) (g : Ghost) (heap : Heap) (left : ℕ)
    (structs : HasLayout p layout) (has : HasArguments p layout n f) (lists : AreTextLists layout known n) (given : CanBeGiven args left) (r : Represents layout known g heap left core.blocks core.statics) where
  abbrev k : ℕ
  k = length args

  abbrev bs : List (Option Block)
  bs = core.blocks

  abbrev array : Value
  array = Ptr (length bs)

  abbrev pub list : Value
  list = Ptr (length bs + 1)

  few : k < 2 ^ 63
  few = (let h = given.room in omega (arith, h))

  arrays : shape_at (shapes_of p.structs) (word (n + 1)) ≡ shape_over (word (n + 1)) 1 None
  arrays = structs.arrays n lists.struct

  -- ---- the call

  abbrev pub mem_of : List Value → List (Option Block) → List (Option Block)
  mem_of items ts = bs ++ Some (array_with (word (n + 1)) (Word (pos k) ∷ []) items) ∷ Some (head_block n k array) ∷ ts

  abbrev counted : Core
  counted = record core { function = f; block = 0; at = 1; vars = Unset ∷ Unset ∷ Word (pos k) ∷ Unset ∷ Unset ∷ Unset ∷ Unset ∷ Unset ∷ Unset ∷ Unset ∷ Unset ∷ [] }

  made_here : (waits : List Frame) → Returns p args 1 (Calling has.makes (Word (pos k) ∷ []) waits counted) list waits (record counted { blocks = mem_of (raw k) [] })
  made_here waits =
      let it = made_list p args layout n has.makes k (structs.heads n lists.struct) arrays has.list counted waits in
      let q = length-append bs (Some (raw_array n k) ∷ []) in
      record {
        end = it.end;
        same = it.same ∙ ap (λ bs. forgotten (record counted { blocks = bs })) (append_assoc bs (Some (raw_array n k) ∷ []) (Some (head_block n k array) ∷ []));
        leads = subst (λ n. Leads p args 1 (Calling has.makes (Word (pos k) ∷ []) waits counted) [] (Returning (Ptr n) waits it.end)) q it.leads;
      }

  abbrev begun : Others p args f has.makes (shape_of layout n) has.graph structs.plain.text arrays core waits k refl few
  begun = record { v4 = Unset; v5 = Unset; v6 = Unset; v7 = Unset; v8 = Unset; v9 = Unset; v10 = Unset }

  filled : Returns p args k (asking p args f has.makes (shape_of layout n) has.graph structs.plain.text arrays core waits k refl few 0 begun (raw k) []) list waits (record core { blocks = mem_of (pointers (length bs) 0 k) (text_blocks args) })
  filled = fills p args f has.makes (shape_of layout n) has.graph structs.plain.text arrays core waits k refl few [] [] args 0 begun [] refl refl refl refl given.texts

  begins : Leads p args 1 (Calling f [] waits core) [] (asking p args f has.makes (shape_of layout n) has.graph structs.plain.text arrays core waits k refl few 0 begun (raw k) [])
  unfolding arguments_graph types start first_blocks last_blocks asks
  begins = leads_more (0 + (1 + 0)) 1 (omega arith)
      (leads_then (on (enter has.graph refl) (one refl refl))
      (leads_then (calls_back {core = counted} 1 refl refl made_here)
      (on (reads_field 2 (head_block n k array) array (structs.heads n lists.struct) (block_behind bs _ (length bs + 1) 1 refl) refl refl 1 refl) (many 1 has.graph refl refl))))

  -- ---- memory

  abbrev pub ghost : Ghost
  ghost = with_texts g n (length heap) args

  -- each pointer is its string
  each : (texts : List (List ℕ)) (j : ℕ) → AreTexts texts → ((m : ℕ) (t : List ℕ) → slice_get texts m ≡ Some t → use_of ghost (Ptr (length bs + 2 + (j + m))) ≡ Some (Stays (text_block t))) → EachHolds layout known ghost (Some lists.item) (pointers (length bs) j (length texts)) (map Text texts)
  each [] j fine used = Empty
  each (t ∷ texts) j fine used =
      More (Plain lists.plain (subst (λ y. Stands ghost y (Ptr (length bs + 2 + j)) (Text t)) (sym lists.typed) (text (Ptr (length bs + 2 + j)) t (record { is = ap (λ m. use_of ghost (Ptr (length bs + 2 + m))) (let e : j ≡ j + 0 = omega arith in e) ∙ used 0 t refl; short = fine.0.0; small = fine.0.1 }))))
      (each texts (suc j) fine.1 (λ m u e. ap (λ m. use_of ghost (Ptr (length bs + 2 + m))) (let e : suc j + m ≡ j + suc m = omega arith in e) ∙ used (suc m) u e))

  abbrev pub items : List Value
  items = pointers (length bs) 0 k

  same_blocks : bs ++ Some (array_block n items) ∷ Some (head_block n (length (map Text args)) array) ∷ text_blocks args ≡ mem_of items (text_blocks args)
  same_blocks = ap (λ q. bs ++ Some (array_with (word (n + 1)) (Word (pos q) ∷ []) items) ∷ Some (head_block n (length (map Text args)) array) ∷ text_blocks args) (pointers_long (length bs) 0 k)
      ∙ ap (λ q. bs ++ Some (array_with (word (n + 1)) (Word (pos k) ∷ []) items) ∷ Some (head_block n q array) ∷ text_blocks args) (length-map args Text)

  pub represents : Represents layout known ghost (heap ++ Listed (map Text args) ∷ []) left (mem_of items (text_blocks args)) core.statics
  represents = subst (λ l. Represents layout known ghost (heap ++ Listed (map Text args) ∷ []) left l core.statics) same_blocks
      (texts_listed r n left args items (map Text args) (omega arith) lists.struct
      (subst (λ s. EachHolds layout known ghost s items (map Text args)) (sym lists.item_is) (each args 0 given.texts (λ m t h. ap (λ m. use_of ghost (Ptr (length bs + 2 + m))) (let e : 0 + m ≡ m = omega arith in e) ∙ text_use_is r n left args m t h)))
      (subst (λ q. q < 2 ^ 63) (sym (pointers_long (length bs) 0 k)) few)
      (let q = length-map args Text in let h = given.room in omega (arith, q, h)) (structs.lists_apart n lists.struct))

  pub new_home : slice_get ghost.homes (length heap) ≡ Some (record { sort = ListOf n; head = list })
  new_home = get_first g.homes [] (record { sort = ListOf n; head = Ptr (length g.blocks + 1) }) (length heap) (sym r.homes) ∙ ap (λ q. Some (record { sort = ListOf n; head = Ptr (q + 1) })) r.made

  pub comes_back : Returns p args (k + 1) (Calling f [] waits core) list waits (record core { blocks = mem_of items (text_blocks args) })
  comes_back = record { end = filled.end; same = filled.same; leads = leads_more (1 + k) (k + 1) (omega arith) (leads_then begins filled.leads) }

  gave : GaveList p layout known args n f waits core g heap left
  gave = record {
    x = list;
    end = comes_back.end;
    leads = comes_back.leads;
    memory = comes_back.same ∙ ap (λ l. forgotten (record core { blocks = l })) (sym (ap (λ (c : Core). c.blocks) comes_back.same));
    few = ap (λ (c : Core). length c.blocks) comes_back.same ∙ (let a = length-append bs (Some (array_with (word (n + 1)) (Word (pos k) ∷ []) items) ∷ Some (head_block n k array) ∷ text_blocks args) in let b : length (text_blocks args) ≡ k = length-map args _ in omega (arith, a, b));
    ghost = ghost;
    grown = texts_grown g n (length heap) args;
    stands = subst (λ (c : Core). Represents layout known ghost (heap ++ Listed (map Text args) ∷ []) left c.blocks c.statics) (sym comes_back.same) represents;
    home = new_home;
  }

pub arguments_are_listed : ArgumentsAreListed
arguments_are_listed p layout known args n f waits core g heap left structs has lists given r = gave p layout known args n f waits core g heap left structs has lists given r
