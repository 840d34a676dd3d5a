-- The graph that makes a list of the keys or the values of a dict.
use Rattle.std.proofs.Common.{◌≡◌, ◌<◌, ◌≤◌, ◌⊎◌, inl, inr, ℕ, ◌+◌, ◌-◌, ◌^◌, ◌||◌, false, true, Bool, List, [], ◌∷◌, length, Option, Some, None, Ok, pos, refl, sym, ap, ◌∙◌, subst, arith}
use Rattle.std.specs.Prelude.{slice_get, nat_lt}
use Rattle.std.specs.Ordering.{int_eq}
use Rattle.std.proofs.lemmas.Bool.Decides.{nat_tests}
use Rattle.csub_tree.specs.State.{Value, Unset, Word, Flag, Ptr, Block, Core}
use Rattle.csub_tree.specs.Layout.{shape_at, shape_over}
use Rattle.csub_tree.specs.Operation.{is_unset, binary_of}
use Rattle.csub_tree.specs.declared.tree.CBinary.TheVariants as binary
use Rattle.csub_tree.specs.declared.tree.COperand.{COperand}
use Rattle.csub_tree.specs.declared.tree.COperand.TheVariants.{Var}
use Rattle.ll_code.specs.State.{Frame, Calling, At, Returning}
use Rattle.ll_code.specs.Machine.{shapes_of}
use Rattle.ll_code.specs.declared.program.LlType.{LlType}
use Rattle.ll_code.specs.declared.program.LlOp.{LlOp}
use Rattle.ll_code.specs.declared.program.LlOp.TheVariants as op
use Rattle.ll_code.specs.declared.program.LlExit.{LlExit}
use Rattle.ll_code.specs.declared.program.LlProgram.{LlProgram}
use Rattle.ll_build.specs.Build.{fork, word as word_operand}
use Rattle.ll_held.specs.Held.{times}
use Rattle.ll_held.specs.Roots.{roots}
use Rattle.ll_leads.specs.Memory.{forgotten}
use Rattle.ll_leads.specs.Path.{Leads}
use Rattle.ll_leads.proofs.Joined.{leads_then, leads_more}
use Rattle.ll_leads.proofs.Ways.{on, many, gives, pays, lacks}
use Rattle.ll_texts.specs.Follows.{Lacked}
use Rattle.ll_texts.specs.Texts.{found}
use Rattle.ll_texts.proofs.Numbers.{subs}
use Rattle.rtyper_layout.specs.declared.layout.Layout.{Layout}
use Rattle.rtyper_layout.specs.Types.{word}
use Rattle.list_shape.specs.Shapes.{gives as gives_block, shape_of}
use Rattle.list_loops.specs.Making.{make}
use Rattle.rtyper_dict.specs.declared.lists.Part.{Part}
use Rattle.rtyper_dict.specs.declared.parts.DictShape.{DictShape}
use Rattle.rtyper_dict.specs.Listing.{list_asks, list_blocks, list_graph, list_makes, list_walks}
use Rattle.list_laws.proofs.Making.{made_list}
use Rattle.object_laws.specs.Dicts.{dict_block, items_block}
use Rattle.object_laws.specs.Represents.{head_block}
use Rattle.object_laws.proofs.Blocks.{found_set, reads_field}
use Rattle.object_laws.proofs.Calling.{Returns, calls_back}
use Rattle.list_copy_laws.proofs.Fresh.{head_found, head_of, old_found, raw, two_more}
use Rattle.list_copy_laws.proofs.Tests.{is_less, not_less}
use Rattle.dict_find_laws.proofs.Filling.{Gets, Graph, Others, asking, fills}

pub none_here : (k : ℕ) → k ≡ 0 → binary_of binary.Eq (Word (pos k)) (Word (pos 0)) ≡ Ok (Flag true)
none_here k h = ap (λ b. Ok (Flag b)) (let e : int_eq (pos k) (pos 0) ≡ true = grind (arith, nat_tests, h) in e)

pub some_here : (k : ℕ) → 0 < k → binary_of binary.Eq (Word (pos k)) (Word (pos 0)) ≡ Ok (Flag false)
some_here k h = ap (λ b. Ok (Flag b)) (let e : int_eq (pos k) (pos 0) ≡ false = grind (arith, nat_tests, h) in e)

module _ (p : LlProgram) (args : List (List ℕ)) (layout : Layout) (f makes l : ℕ) (d : DictShape) (of : Part) (get_op : LlOp) (r_ops : List LlOp) (y : COperand) (types : List LlType)
    (core : Core) (left : ℕ) (head one two : Value) (k places : ℕ) (Rest : Type 0) (rest_of : Rest → List Value) (begun : Rest) where
  abbrev making : List LlOp
  making = op.Call (Some 2) makes (Var 1 ∷ []) ∷ op.GetField 3 l 2 1 ∷ op.Binary 5 binary.Eq (Var 1) (word_operand (pos 0)) ∷ []

  abbrev forks : LlExit
  forks = fork 5 4 (Var 2 ∷ []) 1 (Var 0 ∷ Var 1 ∷ Var 2 ∷ Var 3 ∷ [])

  abbrev pub paying : List LlOp
  paying = op.GetField 1 d.dict 0 0 ∷ op.Step (word_operand (pos 1)) ∷ op.Step (Var 1) ∷ making

  abbrev pub start_vars : Value → Value → Value → List Value
  start_vars v1 v2 v3 = head ∷ v1 ∷ v2 ∷ v3 ∷ Unset ∷ Unset ∷ Unset ∷ Unset ∷ Unset ∷ Unset ∷ Unset ∷ Unset ∷ Unset ∷ Unset ∷ rest_of begun

  abbrev at_step : ℕ → ℕ → Core
  at_step at steps = record core { function = f; block = 0; at = at; vars = start_vars (Word (pos k)) Unset Unset; steps = steps }

  -- from the call to what is paid
  abbrev pub Starts : Type 0
  Starts = (waits : List Frame) → Leads p args 0 (Calling f (head ∷ []) waits core) [] (At paying forks waits (record core { function = f; block = 0; at = 0; vars = start_vars Unset Unset Unset }))

  module _ (starts : Starts) (heads : shape_at (shapes_of p.structs) d.dict ≡ shape_over d.dict 4 None) (head_is : found core.blocks core.statics head ≡ Some (dict_block d.dict k places one two)) (steps : left ≡ core.steps) (begun_is : (rest_of begun ≡ []) ⊎ (rest_of begun ≡ Unset ∷ [])) where
    head_set : is_unset head ≡ false
    head_set = found_set core.blocks core.statics head _ head_is

    counts : (waits : List Frame) → Leads p args 0 (Calling f (head ∷ []) waits core) [] (At (op.Step (word_operand (pos 1)) ∷ op.Step (Var 1) ∷ making) forks waits (record (at_step 1 left) { steps = core.steps }))
    counts waits = on (starts waits) (reads_field 4 (dict_block d.dict k places one two) (Word (pos k)) heads head_is refl refl 0 refl)

    -- ---- the steps do not suffice

    -- nothing else is held then
    abbrev OnlyDict : List LlOp → Core → List Value → List Frame → Type 0
    OnlyDict ops c rest waits = (b : ℕ) → 0 < times b (roots p (At ops forks waits (record c { vars = head ∷ Word (pos k) ∷ Unset ∷ Unset ∷ Unset ∷ Unset ∷ Unset ∷ Unset ∷ Unset ∷ Unset ∷ Unset ∷ Unset ∷ Unset ∷ Unset ∷ rest }))) → 0 < times b (roots p (Calling f (head ∷ []) waits core))

    only_one : (rest : List Value) → (rest ≡ []) ⊎ (rest ≡ Unset ∷ []) → (waits : List Frame) → OnlyDict (op.Step (word_operand (pos 1)) ∷ op.Step (Var 1) ∷ making) core rest waits
    only_one [] h waits = λ b h. h
    only_one (v ∷ []) (inl h) waits = absurd (cc)
    only_one (v ∷ []) (inr h) waits = (let q : v ≡ Unset = cc in subst (λ v. OnlyDict (op.Step (word_operand (pos 1)) ∷ op.Step (Var 1) ∷ making) core (v ∷ []) waits) (sym q) (λ b h. h))
    only_one (v ∷ u ∷ rest) (inl h) waits = absurd (cc)
    only_one (v ∷ u ∷ rest) (inr h) waits = absurd (cc)

    only_two : (rest : List Value) → (rest ≡ []) ⊎ (rest ≡ Unset ∷ []) → (waits : List Frame) → OnlyDict (op.Step (Var 1) ∷ making) core rest waits
    only_two [] h waits = λ b h. h
    only_two (v ∷ []) (inl h) waits = absurd (cc)
    only_two (v ∷ []) (inr h) waits = (let q : v ≡ Unset = cc in subst (λ v. OnlyDict (op.Step (Var 1) ∷ making) core (v ∷ []) waits) (sym q) (λ b h. h))
    only_two (v ∷ u ∷ rest) (inl h) waits = absurd (cc)
    only_two (v ∷ u ∷ rest) (inr h) waits = absurd (cc)

    lacks_one : left < 1 → (waits : List Frame) → Lacked p args (Calling f (head ∷ []) waits core) core
    lacks_one short waits = record {
      last = At (op.Step (word_operand (pos 1)) ∷ op.Step (Var 1) ∷ making) forks waits (record (at_step 1 left) { steps = core.steps });
      leads = counts waits;
      ends = lacks p args (op.Step (Var 1) ∷ making) forks waits (record (at_step 1 left) { steps = core.steps }) (word_operand (pos 1)) 1 refl (omega (arith, short, steps));
      blocks = refl;
      holds = only_one (rest_of begun) begun_is waits;
    }

    lacks_two : 1 ≤ left → left < 1 + k → (waits : List Frame) → Lacked p args (Calling f (head ∷ []) waits core) core
    lacks_two enough short waits = record {
      last = At (op.Step (Var 1) ∷ making) forks waits (at_step 2 (left - 1));
      leads = on (counts waits) (pays 1 (left - 1) refl (omega (arith, enough, steps)));
      ends = lacks p args making forks waits (at_step 2 (left - 1)) (Var 1) k refl (omega (arith, short, enough));
      blocks = refl;
      holds = only_two (rest_of begun) begun_is waits;
    }

    pub list_lacks : left < 1 + k → (waits : List Frame) → Lacked p args (Calling f (head ∷ []) waits core) core
    list_lacks short waits = by (nat_lt left 1) refl
      where
        by : (c : Bool) → nat_lt left 1 ≡ c → Lacked p args (Calling f (head ∷ []) waits core) core
        by true h = lacks_one (is_less left 1 h) waits
        by false h = lacks_two (not_less left 1 h) short waits

    -- ---- they do

    module _ (enough : 1 + k ≤ left) (graph : Graph p args f makes d of (shape_of layout l) get_op r_ops y types core (left - (1 + k)) head one two k 0 Rest rest_of) (list_heads : shape_at (shapes_of p.structs) l ≡ shape_over l 2 None) (arrays : shape_at (shapes_of p.structs) (word (l + 1)) ≡ shape_over (word (l + 1)) 1 None)
        (made : slice_get p.graphs makes ≡ Some (make (shape_of layout l))) where
      abbrev paid : ℕ
      paid = left - (1 + k)

      abbrev bs : List (Option Block)
      bs = core.blocks

      abbrev pub list : Value
      list = head_of bs l k (raw k)

      abbrev array : Value
      array = Ptr (length bs)

      pays_it : (waits : List Frame) → Leads p args 0 (Calling f (head ∷ []) waits core) [] (At making forks waits (at_step 3 paid))
      pays_it waits = on (counts waits) (on (pays 1 (left - 1) refl (omega (arith, enough, steps))) (pays k paid refl (omega (arith, enough))))

      -- the list, whose items are to be set
      abbrev made_core : ℕ → List Value → Core
      made_core at vars = record core { function = f; block = 0; at = at; vars = vars; blocks = two_more bs l k (raw k); steps = paid }

      makes_it : (waits : List Frame) → Leads p args 1 (Calling f (head ∷ []) waits core) [] (At (op.Binary 5 binary.Eq (Var 1) (word_operand (pos 0)) ∷ []) forks waits (made_core 5 (start_vars (Word (pos k)) list array)))
      makes_it waits = leads_more (0 + (1 + 0)) 1 (omega arith)
          (leads_then (pays_it waits)
          (leads_then (calls_back {core = at_step 3 paid} 1 refl refl (λ waits. made_list p args layout l makes k list_heads arrays made (at_step 3 paid) waits))
          (reads_field 2 (head_block l k array) array list_heads (head_found bs l k (raw k) core.statics) refl refl 1 refl)))

      -- a dict without entries
      pub none_listed : k ≡ 0 → (waits : List Frame) → Returns p args (k + 1) (Calling f (head ∷ []) waits core) list waits (record core { blocks = two_more bs l k []; steps = paid })
      unfolding list_graph list_blocks list_makes gives_block
      none_listed none waits = record {
        end = _;
        same = ap (λ j. forgotten (record core { blocks = two_more bs l k (raw j); steps = paid })) none;
        leads = leads_more (1 + 0) (k + 1) (omega arith) (leads_then (makes_it waits) (on (gives (Flag true) (none_here k none)) (many 2 graph refl refl)));
      }

      module _ (some : 0 < k) (size : ℕ) (items : List Value) (items_long : length items ≡ size + places) (fits : size + places < 2 ^ 63) (k_few : k ≤ places) (one_set : is_unset one ≡ false) (seconds : shape_at (shapes_of p.structs) d.second ≡ shape_over d.second 1 None)
          (second_is : found core.blocks core.statics two ≡ Some (items_block d.second items)) (xs : List Value) (long : length xs ≡ k) (gets : Gets p args f makes d of (shape_of layout l) get_op r_ops y types core paid head one two k size Rest rest_of xs) (set : (j : ℕ) (x : Value) → slice_get xs j ≡ Some x → is_unset x ≡ false) where
        two_set : is_unset two ≡ false
        two_set = found_set core.blocks core.statics two _ second_is

        both_set : is_unset one || (is_unset two || false) ≡ false
        both_set = ap (λ b. b || (is_unset two || false)) one_set ∙ ap (λ b. b || false) two_set

        head_now : found (two_more bs l k (raw k)) core.statics head ≡ Some (dict_block d.dict k places one two)
        head_now = old_found bs l k (raw k) core.statics head _ head_is

        second_now : found (two_more bs l k (raw k)) core.statics two ≡ Some (items_block d.second items)
        second_now = old_found bs l k (raw k) core.statics two _ second_is

        abbrev others : Others p args f makes d of (shape_of layout l) get_op r_ops y types core paid head one two k size Rest rest_of
        others = record { v5 = Flag false; v6 = Unset; v9 = Word (pos (size + places)); v10 = Word (pos places); v12 = Unset; v13 = Unset; rest = begun }

        pub all_listed : (waits : List Frame) → Returns p args (k + 1) (Calling f (head ∷ []) waits core) list waits (record core { blocks = two_more bs l k xs; steps = paid })
        unfolding list_graph list_blocks list_makes list_walks list_asks
        all_listed waits =
            let it = fills p args f makes d of (shape_of layout l) get_op r_ops y types core paid head one two k size Rest rest_of graph arrays one_set two_set xs long (omega (arith, fits, k_few)) gets set waits [] xs 0 others refl refl in
            record {
              end = it.end;
              same = it.same;
              leads = leads_more (1 + (0 + length xs)) (k + 1) (omega (arith, long))
                  (leads_then (makes_it waits)
                  (leads_then (on (gives (Flag false) (some_here k some)) (on (many 1 graph refl (simp head_set))
                  (on (reads_field 4 (dict_block d.dict k places one two) one heads head_now refl one_set 2 refl)
                  (on (reads_field 4 (dict_block d.dict k places one two) two heads head_now refl two_set 3 refl)
                  (on (reads_field 1 (items_block d.second items) (Word (pos (size + places))) seconds second_now refl refl 0 (ap (λ n. Word (pos n)) items_long))
                  (on (reads_field 4 (dict_block d.dict k places one two) (Word (pos places)) heads head_now refl refl 1 refl)
                  (on (gives (Word (pos size)) (subs (size + places) places size (omega arith) fits)) (many 1 graph refl both_set))))))))
                  (subst (λ j. Leads p args (length xs) (asking p args f makes d of (shape_of layout l) get_op r_ops y types core paid head one two k size Rest rest_of 0 others (raw j) waits) [] (Returning list waits it.end)) long it.leads)));
            }
