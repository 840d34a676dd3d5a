-- The graph that makes a list of all items of another but the last, by a slice.
use Rattle.std.proofs.Common.{◌≡◌, ◌<◌, ◌≤◌, ◌⊎◌, inl, inr, ℕ, zero, suc, ◌+◌, ◌-◌, ◌^◌, ◌||◌, Bool, true, false, List, [], ◌∷◌, ◌++◌, length, Some, Ok, pos, refl, ap, ◌∙◌, subst, arith, length-append}
use Rattle.std.specs.Prelude.{cond, not, ◌&&◌, take}
use Rattle.csub_tree.specs.State.{Value, Unset, Word, Flag, Core}
use Rattle.csub_tree.specs.Operation.{is_unset, binary_of}
use Rattle.csub_tree.specs.declared.tree.CBinary.TheVariants as binary
use Rattle.csub_tree.specs.declared.tree.COperand.TheVariants.{Var}
use Rattle.csub_tree.specs.declared.stuck.StuckReason.TheVariants.{Unset as IsUnset}
use Rattle.ll_code.specs.State.{Frame, Calling, At, Goes, Sticks}
use Rattle.ll_code.specs.Machine.{waiting, block_in}
use Rattle.ll_code.specs.declared.program.LlOp.{LlOp}
use Rattle.ll_code.specs.declared.program.LlOp.TheVariants as op
use Rattle.ll_code.specs.declared.program.LlExit.TheVariants as exit
use Rattle.ll_code.specs.declared.program.LlProgram.{LlProgram}
use Rattle.ll_held.specs.Held.{times}
use Rattle.ll_held.specs.Roots.{kept, slots, roots, waiting_roots, under_way, operation_in, read_by}
use Rattle.ll_held.proofs.Keeping.{in_parts, in_first, in_second}
use Rattle.ll_leads.specs.Path.{Leads}
use Rattle.ll_leads.proofs.Joined.{leads_then, leads_more}
use Rattle.ll_leads.proofs.Ways.{on, one, many, enter, gives}
use Rattle.ll_live.specs.Live.{live, sets}
use Rattle.ll_build.specs.Build.{word as word_operand}
use Rattle.ll_texts.specs.Follows.{Lacked}
use Rattle.ll_texts.proofs.Numbers.{subs}
use Rattle.rpy_tree.specs.Value.{Value as Meant, Heap}
use Rattle.rtyper_layout.specs.declared.layout.Layout.{Layout}
use Rattle.rtyper_layout.specs.Layout.{is_list}
use Rattle.rtyper_layout.specs.Types.{word}
use Rattle.rtyper_data.specs.declared.small.Listed.TheVariants.{Slice}
use Rattle.rtyper_data.specs.declared.small.Small.TheVariants as small
use Rattle.rtyper_data.specs.Finding.{small_number}
use Rattle.list_shape.specs.Shapes.{item_of, shape_of}
use Rattle.list_loops.specs.Making.{but_last, but_last_graph, but_last_start, but_last_shorter, but_last_given}
use Rattle.list_laws.specs.Asked.{HasButLast}
use Rattle.list_laws.proofs.Copying.{more_than}
use Rattle.object_laws.specs.Known.{Known}
use Rattle.object_laws.specs.Done.{HasLayout}
use Rattle.object_laws.specs.Ghost.{Ghost}
use Rattle.object_laws.specs.Represents.{Represents, ListAt, head_block}
use Rattle.object_laws.specs.Values.{EachHolds}
use Rattle.object_laws.proofs.Blocks.{found_set, reads_field}
use Rattle.object_laws.proofs.Calling.{calls_back}
use Rattle.object_laws.proofs.Valued.{each_long}
use Rattle.list_copy_laws.proofs.Fresh.{MadeList}
use Rattle.list_copy_laws.proofs.Slicing.{cut, drop_none, sliced, slice_lacks}

module _ (p : LlProgram) (args : List (List ℕ)) (layout : Layout) (known : Known) (raised : ℕ → Value) (structs : HasLayout p layout) (l n : ℕ) (struct : is_list layout l ≡ true) (struct2 : is_list layout n ≡ true) (f : ℕ) (has : HasButLast p layout raised l n f)
    (typed : item_of layout (word (l + 1)) ≡ item_of layout (word (n + 1))) (each_as : (xs : List Value) (vs : List Meant) (g : Ghost) → EachHolds layout known g (known.items l) xs vs → EachHolds layout known g (known.items n) xs vs)
    (g : Ghost) (heap : Heap) (left : ℕ) (core : Core) (r : Represents layout known g heap left core.blocks core.statics) (steps : left ≡ core.steps)
    (i : ℕ) (head : Value) (s : ListAt layout known g heap left core.blocks core.statics l i head) where
  abbrev slices : ℕ
  slices = (small_number (small.Listed (Slice l n)) has.made).0

  abbrev count : ℕ
  count = length s.items

  abbrev k : ℕ
  k = count - 1

  head_set : is_unset head ≡ false
  head_set = found_set core.blocks core.statics head _ s.head_is

  passes : is_unset head || false ≡ false
  passes = ap (λ b. b || false) head_set

  abbrev slicing : LlOp
  slicing = op.Call (Some 4) slices (Var 0 ∷ word_operand (pos 0) ∷ Var 3 ∷ [])

  abbrev inner : Bool → Core
  inner t = record core { function = f; block = 2; at = 0; vars = head ∷ Word (pos count) ∷ Flag t ∷ Word (pos k) ∷ Unset ∷ [] }

  abbrev Comes : Bool → Type 0
  Comes t = (waits : List Frame) → Leads p args 0 (Calling f (head ∷ []) waits core) [] (At (slicing ∷ []) (exit.Return (Some (Var 4))) waits (inner t))

  small_count : count < 2 ^ 63
  small_count = (let q : length (s.values ++ s.spare) ≡ length s.values + length s.spare = length-append s.values s.spare in let t = s.long in let u = each_long s.each in omega (arith, q, t, u))

  abbrev tested : Bool → Core
  tested t = record core { function = f; block = 0; at = 2; vars = head ∷ Word (pos count) ∷ Flag t ∷ Unset ∷ Unset ∷ [] }

  asks : (t : Bool) → binary_of binary.Gt (Word (pos count)) (Word (pos 0)) ≡ Ok (Flag t) → (waits : List Frame) → Leads p args 0 (Calling f (head ∷ []) waits core) [] (At [] (but_last_start (shape_of layout l)).exit waits (tested t))
  unfolding but_last but_last_graph but_last_start but_last_shorter but_last_given
  asks t more waits = on (enter has.graph refl) (on (reads_field 2 (head_block l count s.array) (Word (pos count)) (structs.heads l struct) s.head_is refl refl 0 refl) (gives (Flag t) more))

  some_items : 0 < count → Comes true
  unfolding but_last but_last_graph but_last_start but_last_shorter but_last_given
  some_items h waits =
      on (asks true (ap (λ q. binary_of binary.Gt (Word (pos q)) (Word (pos 0))) (let q : count ≡ suc k = omega (arith, h) in q) ∙ more_than k) waits)
      (on (many 1 has.graph refl passes) (on (gives (Word (pos k)) (subs count 1 k (omega (arith, h)) small_count)) (many 1 has.graph refl passes)))

  no_items : count ≡ 0 → Comes false
  unfolding but_last but_last_graph but_last_start but_last_shorter but_last_given
  no_items h waits =
      on (asks false (ap (λ q. binary_of binary.Gt (Word (pos q)) (Word (pos 0))) h) waits)
      (subst (λ q. Leads p args 0 (At [] (but_last_start (shape_of layout l)).exit waits (tested false)) [] (At (slicing ∷ []) (exit.Return (Some (Var 4))) waits (record (inner false) { vars = head ∷ Word (pos count) ∷ Flag false ∷ Word (pos q) ∷ Unset ∷ [] }))) (let q : 0 ≡ k = omega (arith, h) in q) (many 1 has.graph refl passes))

  either : (t : Bool) × Comes t
  either = by count refl
    where
      by : (c : ℕ) → count ≡ c → (t : Bool) × Comes t
      by zero h = (false, no_items h)
      by (suc c) h = (true, some_items (omega (arith, h)))

  t : Bool
  t = either.0

  comes : Comes t
  unfolding t
  comes = either.1

  abbrev mid : Core
  mid = inner t

  abbrev vs : List Meant
  vs = cut 0 k s.items

  vs_is : vs ≡ take (length s.items - 1) s.items
  vs_is = drop_none (take k s.items)

  -- ---- the steps do not suffice

  abbrev frame : Frame
  frame = waiting mid (Some 4) [] (exit.Return (Some (Var 4)))

  under : under_way p frame ≡ Some slicing
  unfolding but_last but_last_graph but_last_start but_last_shorter but_last_given
  under = ap (λ o. operation_in (block_in o 2) 0) has.graph

  enters : (waits : List Frame) → Leads p args 0 (At (slicing ∷ []) (exit.Return (Some (Var 4))) waits mid) [] (Calling slices (head ∷ Word (pos 0) ∷ Word (pos k) ∷ []) (frame ∷ waits) mid)
  enters waits = one (ap (λ b. cond b (Sticks IsUnset) (Goes (Calling slices (head ∷ Word (pos 0) ∷ Word (pos k) ∷ []) (frame ∷ waits) mid))) passes) refl

  holds : (waits : List Frame) (b : ℕ) → 0 < times b (roots p (Calling slices (head ∷ Word (pos 0) ∷ Word (pos k) ∷ []) (frame ∷ waits) mid)) → 0 < times b (roots p (Calling f (head ∷ []) waits core))
  holds waits b h = outer (in_parts b (head ∷ Word (pos 0) ∷ Word (pos k) ∷ slots mid) (waiting_roots p (frame ∷ waits)) h)
    where
      waited : (0 < times b (kept (λ v. read_by (under_way p frame) v || (not (sets (Some 4) v) && live [] (exit.Return (Some (Var 4))) v)) 0 frame.vars)) ⊎ (0 < times b (waiting_roots p waits)) → 0 < times b (roots p (Calling f (head ∷ []) waits core))
      waited (inl q) = in_first b (head ∷ []) (slots core ++ waiting_roots p waits) (subst (λ o. 0 < times b (kept (λ v. read_by o v || (not (sets (Some 4) v) && live [] (exit.Return (Some (Var 4))) v)) 0 frame.vars)) under q)
      waited (inr q) = in_second b (head ∷ slots core) (waiting_roots p waits) q

      outer : (0 < times b (head ∷ Word (pos 0) ∷ Word (pos k) ∷ slots mid)) ⊎ (0 < times b (waiting_roots p (frame ∷ waits))) → 0 < times b (roots p (Calling f (head ∷ []) waits core))
      outer (inl q) = in_first b (head ∷ slots core) (waiting_roots p waits) q
      outer (inr q) = waited (in_parts b (kept (λ v. read_by (under_way p frame) v || (not (sets (Some 4) v) && live [] (exit.Return (Some (Var 4))) v)) 0 frame.vars) (waiting_roots p waits) q)

  pub but_last_lacks : left < 1 + length vs → (waits : List Frame) → Lacked p args (Calling f (head ∷ []) waits core) core
  but_last_lacks short waits =
      let it = slice_lacks p args layout known raised structs l n struct struct2 slices has.slices typed each_as g heap left mid r steps i head s 0 k short (frame ∷ waits) in
      record {
        last = it.last;
        leads = on (comes waits) (on (enters waits) it.leads);
        ends = it.ends;
        blocks = it.blocks;
        holds = λ b h. holds waits b (it.holds b h);
      }

  -- ---- they do

  pub shortened : 1 + length vs ≤ left → MadeList p args layout known g heap (left - (1 + length vs)) n vs (count + 1) (λ waits. Calling f (head ∷ []) waits core) core
  unfolding but_last but_last_graph but_last_start but_last_shorter but_last_given
  shortened enough =
      let it = sliced p args layout known raised structs l n struct struct2 slices has.slices typed each_as g heap left mid r steps i head s 0 k enough in
      record {
        blocks = it.blocks;
        head = it.head;
        ghost = it.ghost;
        grown = it.grown;
        stands = it.stands;
        home = it.home;
        set = it.set;
        few = it.few;
        returns = λ waits. record {
          end = _;
          same = refl;
          leads = leads_more (0 + ((count + 1) + 0)) (count + 1) (omega arith)
              (leads_then (comes waits) (leads_then (calls_back {core = mid} (count + 1) refl passes it.returns) (many 1 has.graph refl (ap (λ b. b || false) it.set))));
        };
      }
