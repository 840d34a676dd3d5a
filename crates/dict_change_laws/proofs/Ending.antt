-- The longer arrays take the places of the old ones, and hold nothing behind the entries.
use Rattle.std.proofs.Common.{◌≡◌, ◌<◌, ◌≤◌, ℕ, zero, suc, ◌+◌, ◌^◌, ◌||◌, false, List, [], ◌∷◌, ◌++◌, length, Option, Some, None, pos, refl, sym, ap, ◌∙◌, subst, arith, append_assoc, length-append}
use Rattle.std.specs.Prelude.{slice_get, replicate}
use Rattle.csub_tree.specs.State.{Value, Unset, Word, Block, Core}
use Rattle.csub_tree.specs.Layout.{shape_at, shape_over}
use Rattle.csub_tree.specs.declared.tree.COperand.TheVariants.{Var}
use Rattle.ll_code.specs.State.{Frame, Calling, At}
use Rattle.ll_code.specs.Machine.{shapes_of}
use Rattle.ll_code.specs.declared.program.LlType.{LlType}
use Rattle.ll_code.specs.declared.program.LlOp.{LlOp}
use Rattle.ll_code.specs.declared.program.LlExit.TheVariants as exit
use Rattle.ll_code.specs.declared.program.LlProgram.{LlProgram}
use Rattle.ll_held.specs.Held.{is_reference}
use Rattle.ll_leads.specs.Path.{Leads}
use Rattle.ll_leads.proofs.Joined.{leads_then, leads_more}
use Rattle.ll_leads.proofs.Ways.{gives, rests}
use Rattle.ll_texts.specs.Texts.{found}
use Rattle.ll_texts.proofs.Numbers.{adds}
use Rattle.rtyper_dict.specs.declared.parts.DictShape.{DictShape}
use Rattle.rtyper_dict.specs.Growing.{grow_sets, grow_ends}
use Rattle.rtyper_dict.specs.Indexing.{fill}
use Rattle.rtyper_dict.specs.Parts.{and_call}
use Rattle.object_laws.specs.Dicts.{dict_block}
use Rattle.object_laws.specs.Values.{AreEmpty}
use Rattle.object_laws.proofs.Blocks.{found_set}
use Rattle.object_laws.proofs.Calling.{Returns, calls_back}
use Rattle.object_laws.proofs.Changing.{wrote_at, put_block, put_static}
use Rattle.dict_change_laws.proofs.Enlarging.{raw, raw_long}
use Rattle.dict_change_laws.proofs.Filling.{default_of, default_empty, fills}
use Rattle.dict_change_laws.proofs.Putting.{put, array_of, puts_field, at_most_one}
use Rattle.dict_change_laws.proofs.Rewriting.{Have, Three, have_head, have_first, have_second}

-- ---- what stands behind the entries

abbrev pub FillsBy : LlProgram → ℕ → Option ℕ → Type 0
FillsBy p a None = Unit {0}
FillsBy p a (Some k) = (t : LlType) × (slice_get p.graphs k ≡ Some (fill a t))

abbrev pub nothing_in : (p : LlProgram) (a : ℕ) (o : Option ℕ) → FillsBy p a o → ℕ → List Value
nothing_in p a None it n = raw n
nothing_in p a (Some k) it n = replicate n (default_of it.0)

same_long : (x : Value) (n : ℕ) → length (replicate n x) ≡ n
same_long x zero = refl
same_long x (suc n) = ap suc (same_long x n)

same_empty : (x : Value) → is_reference x ≡ false → (n : ℕ) → AreEmpty (replicate n x)
same_empty x h zero = tt
same_empty x h (suc n) = (h, same_empty x h n)

pub nothing_long : (p : LlProgram) (a : ℕ) (o : Option ℕ) (it : FillsBy p a o) (n : ℕ) → length (nothing_in p a o it n) ≡ n
nothing_long p a None it n = raw_long n
nothing_long p a (Some k) it n = same_long (default_of it.0) n

pub nothing_empty : (p : LlProgram) (a : ℕ) (o : Option ℕ) (it : FillsBy p a o) (n : ℕ) → AreEmpty (nothing_in p a o it n)
nothing_empty p a None it n = same_empty Unset refl n
nothing_empty p a (Some k) it n = same_empty (default_of it.0) (default_empty it.0) n

-- ---- the ways

module _ (p : LlProgram) (args : List (List ℕ)) (d : DictShape) (f1 f2 : Option ℕ) (fill1 : FillsBy p d.first f1) (fill2 : FillsBy p d.second f2)
    (head_shape : shape_at (shapes_of p.structs) d.dict ≡ shape_over d.dict 4 None) (first_shape : shape_at (shapes_of p.structs) d.first ≡ shape_over d.first 1 None) (second_shape : shape_at (shapes_of p.structs) d.second ≡ shape_over d.second 1 None)
    (Mine : Value → Type 0) (core : Core) (f : ℕ) (head one two new1 new2 : Value) (three : Three Mine head new1 new2) (count places places2 size spare : ℕ) (pieces : places2 ≡ places + spare) (small : places2 < 2 ^ 62) (short : size ≤ 2 ^ 62) (blocks1 : List (Option Block))
    (firsts seconds : List Value) (firsts_long : length firsts ≡ places) (seconds_long : length seconds ≡ places) (v1 v3 v4 v10 v11 v12 v14 : Value) where
  abbrev total : ℕ
  total = size + places2

  abbrev first_with : List Value → Block
  first_with xs = array_of d.first (Word (pos places2) ∷ []) (firsts ++ xs)

  abbrev second_with : List Value → Block
  second_with xs = array_of d.second (Word (pos total) ∷ []) (raw size ++ (seconds ++ xs))

  abbrev vars : Value → List Value
  vars v13 = head ∷ v1 ∷ Word (pos places) ∷ v3 ∷ v4 ∷ Word (pos places2) ∷ Word (pos size) ∷ Word (pos total) ∷ new1 ∷ new2 ∷ v10 ∷ v11 ∷ v12 ∷ v13 ∷ v14 ∷ []

  abbrev pub at : ℕ → List (Option Block) → List Block → Value → Core
  at n bs ss v13 = record core { function = f; block = 5; at = n; vars = vars v13; blocks = bs; statics = ss }

  abbrev filled : Value
  filled = Word (pos (size + places))

  -- up to some operations, with these blocks
  pub record Reached (most : ℕ) (n : ℕ) (bs : List (Option Block)) (ss : List Block) (v13 : Value) (ops later : List LlOp) (h o t : Block) : Type 0 where
    pub n2 : ℕ
    pub blocks : List (Option Block)
    pub statics : List Block
    pub have : Have Mine head new1 new2 blocks1 core.statics blocks statics h o t
    pub leads : (waits : List Frame) → Leads p args most (At ops (exit.Return None) waits (at n bs ss v13)) [] (At later (exit.Return None) waits (at n2 blocks statics filled))

  -- the head
  sets : (n : ℕ) (bs : List (Option Block)) (ss : List Block) (v13 : Value) (later : List LlOp) (o t : Block) → Have Mine head new1 new2 blocks1 core.statics bs ss (dict_block d.dict count places one two) o t
      → Reached 2 n bs ss v13 (grow_sets d ++ later) later (dict_block d.dict count places2 new1 new2) o t
  unfolding grow_sets
  sets n bs ss v13 later o t have = record {
    n2 = n + 1 + 1 + 1 + 1;
    blocks = core3.blocks;
    statics = core3.statics;
    have = have3;
    leads = λ waits. leads_more (0 + (0 + (1 + 1))) 2 (omega arith)
        (leads_then (gives filled (adds size places (omega (arith, pieces, small, short))))
        (leads_then (puts_field p args _ _ waits _ d.dict 0 1 (Var 5) 4 (dict_block d.dict count places one two) (Word (pos places2)) head_shape refl refl refl head refl have.head_is)
        (leads_then (leads_more _ 1 (at_most_one new1) (puts_field p args _ _ waits _ d.dict 0 2 (Var 8) 4 (dict_block d.dict count places2 one two) new1 head_shape refl refl (found_set bs ss new1 _ have.first_is) head refl have1.head_is))
        (leads_more _ 1 (at_most_one new2) (puts_field p args _ _ waits _ d.dict 0 3 (Var 9) 4 (dict_block d.dict count places2 new1 two) new2 head_shape refl refl (found_set bs ss new2 _ have.second_is) head refl have2.head_is)))));
  }
    where
      begin : Core
      begin = at n bs ss filled

      core1 : Core
      core1 = put begin head (dict_block d.dict count places2 one two)

      core2 : Core
      core2 = put core1 head (dict_block d.dict count places2 new1 two)

      core3 : Core
      core3 = put core2 head (dict_block d.dict count places2 new1 new2)

      have1 : Have Mine head new1 new2 blocks1 core.statics core1.blocks core1.statics (dict_block d.dict count places2 one two) o t
      have1 = have_head three have refl (wrote_at bs ss head _ (dict_block d.dict count places2 one two) have.head_is)

      have2 : Have Mine head new1 new2 blocks1 core.statics core2.blocks core2.statics (dict_block d.dict count places2 new1 two) o t
      have2 = have_head three have1 refl (wrote_at core1.blocks core1.statics head _ (dict_block d.dict count places2 new1 two) have1.head_is)

      have3 : Have Mine head new1 new2 blocks1 core.statics core3.blocks core3.statics (dict_block d.dict count places2 new1 new2) o t
      have3 = have_head three have2 refl (wrote_at core2.blocks core2.statics head _ (dict_block d.dict count places2 new1 new2) have2.head_is)

  -- the first array
  first_fills : (o : Option ℕ) (it : FillsBy p d.first o) (n : ℕ) (bs : List (Option Block)) (ss : List Block) (later : List LlOp) (h t : Block) → Have Mine head new1 new2 blocks1 core.statics bs ss h (first_with (raw spare)) t
      → Reached 0 n bs ss filled (and_call o (Var 8 ∷ Var 2 ∷ []) [] ++ later) later h (first_with (nothing_in p d.first o it spare)) t
  unfolding and_call
  first_fills None it n bs ss later h t have = record { n2 = n; blocks = bs; statics = ss; have = have; leads = λ waits. rests }
  first_fills (Some k) it n bs ss later h t have = record {
    n2 = n + 1;
    blocks = put_block new1 (first_with (replicate spare (default_of it.0))) bs;
    statics = put_static new1 (first_with (replicate spare (default_of it.0))) ss;
    have = have_first three have refl (wrote_at bs ss new1 _ (first_with (replicate spare (default_of it.0))) have.first_is);
    leads = λ waits. calls_back 0 refl (ap (λ b. b || (false || false)) (found_set bs ss new1 _ have.first_is)) (calling (at n bs ss filled) refl refl);
  }
    where
      long : places2 ≡ length (firsts ++ raw spare)
      long = (let l = length-append firsts (raw spare) in let r = raw_long spare in omega (arith, l, r, firsts_long, pieces))

      calling : (c : Core) → c.blocks ≡ bs → c.statics ≡ ss → (waits : List Frame) → Returns p args 0 (Calling k (new1 ∷ Word (pos places) ∷ []) waits c) Unset waits (put c new1 (first_with (replicate spare (default_of it.0))))
      calling c same same2 waits = subst (λ n. Returns p args 0 (Calling k (new1 ∷ Word (pos places) ∷ []) waits c) Unset waits (put c new1 (first_with (replicate n (default_of it.0))))) (raw_long spare)
          (subst (λ n. Returns p args 0 (Calling k (new1 ∷ Word (pos n) ∷ []) waits c) Unset waits (put c new1 (first_with (replicate (length (raw spare)) (default_of it.0))))) firsts_long
          (fills p args d.first k it.0 first_shape it.1 new1 places2 (omega (arith, small)) c firsts (raw spare) long (ap (λ bs. found bs c.statics new1) same ∙ ap (λ ss. found bs ss new1) same2 ∙ have.first_is) waits))

  -- the second array
  second_fills : (o : Option ℕ) (it : FillsBy p d.second o) (n : ℕ) (bs : List (Option Block)) (ss : List Block) (later : List LlOp) (h t : Block) → Have Mine head new1 new2 blocks1 core.statics bs ss h t (second_with (raw spare))
      → Reached 0 n bs ss filled (and_call o (Var 9 ∷ Var 13 ∷ []) [] ++ later) later h t (second_with (nothing_in p d.second o it spare))
  unfolding and_call
  second_fills None it n bs ss later h t have = record { n2 = n; blocks = bs; statics = ss; have = have; leads = λ waits. rests }
  second_fills (Some k) it n bs ss later h t have = record {
    n2 = n + 1;
    blocks = put_block new2 (second_with (replicate spare (default_of it.0))) bs;
    statics = put_static new2 (second_with (replicate spare (default_of it.0))) ss;
    have = have_second three have refl (wrote_at bs ss new2 _ (second_with (replicate spare (default_of it.0))) have.second_is);
    leads = λ waits. calls_back 0 refl (ap (λ b. b || (false || false)) (found_set bs ss new2 _ have.second_is)) (calling (at n bs ss filled) refl refl);
  }
    where
      before_long : length (raw size ++ seconds) ≡ size + places
      before_long = length-append (raw size) seconds ∙ ap (λ n. n + length seconds) (raw_long size) ∙ ap (λ n. size + n) seconds_long

      long : total ≡ length ((raw size ++ seconds) ++ raw spare)
      long = (let l = length-append (raw size ++ seconds) (raw spare) in let r = raw_long spare in let b = before_long in omega (arith, l, r, b, pieces))

      calling : (c : Core) → c.blocks ≡ bs → c.statics ≡ ss → (waits : List Frame) → Returns p args 0 (Calling k (new2 ∷ filled ∷ []) waits c) Unset waits (put c new2 (second_with (replicate spare (default_of it.0))))
      calling c same same2 waits = subst (λ l. Returns p args 0 (Calling k (new2 ∷ filled ∷ []) waits c) Unset waits (put c new2 (array_of d.second (Word (pos total) ∷ []) l))) (append_assoc (raw size) seconds (replicate spare (default_of it.0)))
          (subst (λ n. Returns p args 0 (Calling k (new2 ∷ filled ∷ []) waits c) Unset waits (put c new2 (array_of d.second (Word (pos total) ∷ []) ((raw size ++ seconds) ++ replicate n (default_of it.0))))) (raw_long spare)
          (subst (λ n. Returns p args 0 (Calling k (new2 ∷ Word (pos n) ∷ []) waits c) Unset waits (put c new2 (array_of d.second (Word (pos total) ∷ []) ((raw size ++ seconds) ++ replicate (length (raw spare)) (default_of it.0))))) before_long
          (fills p args d.second k it.0 second_shape it.1 new2 total (omega (arith, small, short)) c (raw size ++ seconds) (raw spare) long (ap (λ bs. found bs c.statics new2) same ∙ ap (λ ss. found bs ss new2) same2 ∙ have.second_is ∙ ap (λ l. Some (array_of d.second (Word (pos total) ∷ []) l)) (sym (append_assoc (raw size) seconds (raw spare)))) waits)))

  -- all but the index
  pub reached : (ix : Option ℕ) (bs : List (Option Block)) (ss : List Block) (v13 : Value) → Have Mine head new1 new2 blocks1 core.statics bs ss (dict_block d.dict count places one two) (first_with (raw spare)) (second_with (raw spare))
      → Reached 2 0 bs ss v13 (grow_ends f1 f2 ix d).ops (and_call ix (Var 0 ∷ []) []) (dict_block d.dict count places2 new1 new2) (first_with (nothing_in p d.first f1 fill1 spare)) (second_with (nothing_in p d.second f2 fill2 spare))
  unfolding grow_ends and_call grow_sets
  reached ix bs ss v13 have = record {
    n2 = c.n2;
    blocks = c.blocks;
    statics = c.statics;
    have = c.have;
    leads = λ waits. subst (λ ops. Leads p args 2 (At ops (exit.Return None) waits (at 0 bs ss v13)) [] (At (and_call ix (Var 0 ∷ []) []) (exit.Return None) waits (at c.n2 c.blocks c.statics filled))) (sym (opened f1 f2 ix))
        (leads_more (2 + (0 + 0)) 2 (omega arith) (leads_then (a.leads waits) (leads_then (b.leads waits) (c.leads waits))));
  }
    where
      opened : (f1 f2 ix : Option ℕ) → and_call ix (Var 0 ∷ []) (and_call f2 (Var 9 ∷ Var 13 ∷ []) (and_call f1 (Var 8 ∷ Var 2 ∷ []) (grow_sets d))) ≡ grow_sets d ++ (and_call f1 (Var 8 ∷ Var 2 ∷ []) [] ++ (and_call f2 (Var 9 ∷ Var 13 ∷ []) [] ++ and_call ix (Var 0 ∷ []) []))
      opened None None None = refl
      opened None None (Some x) = refl
      opened None (Some y) None = refl
      opened None (Some y) (Some x) = refl
      opened (Some z) None None = refl
      opened (Some z) None (Some x) = refl
      opened (Some z) (Some y) None = refl
      opened (Some z) (Some y) (Some x) = refl

      a : Reached 2 0 bs ss v13 (grow_sets d ++ (and_call f1 (Var 8 ∷ Var 2 ∷ []) [] ++ (and_call f2 (Var 9 ∷ Var 13 ∷ []) [] ++ and_call ix (Var 0 ∷ []) []))) (and_call f1 (Var 8 ∷ Var 2 ∷ []) [] ++ (and_call f2 (Var 9 ∷ Var 13 ∷ []) [] ++ and_call ix (Var 0 ∷ []) [])) (dict_block d.dict count places2 new1 new2) (first_with (raw spare)) (second_with (raw spare))
      a = sets 0 bs ss v13 (and_call f1 (Var 8 ∷ Var 2 ∷ []) [] ++ (and_call f2 (Var 9 ∷ Var 13 ∷ []) [] ++ and_call ix (Var 0 ∷ []) [])) (first_with (raw spare)) (second_with (raw spare)) have

      b : Reached 0 a.n2 a.blocks a.statics filled (and_call f1 (Var 8 ∷ Var 2 ∷ []) [] ++ (and_call f2 (Var 9 ∷ Var 13 ∷ []) [] ++ and_call ix (Var 0 ∷ []) [])) (and_call f2 (Var 9 ∷ Var 13 ∷ []) [] ++ and_call ix (Var 0 ∷ []) []) (dict_block d.dict count places2 new1 new2) (first_with (nothing_in p d.first f1 fill1 spare)) (second_with (raw spare))
      b = first_fills f1 fill1 a.n2 a.blocks a.statics (and_call f2 (Var 9 ∷ Var 13 ∷ []) [] ++ and_call ix (Var 0 ∷ []) []) (dict_block d.dict count places2 new1 new2) (second_with (raw spare)) a.have

      c : Reached 0 b.n2 b.blocks b.statics filled (and_call f2 (Var 9 ∷ Var 13 ∷ []) [] ++ and_call ix (Var 0 ∷ []) []) (and_call ix (Var 0 ∷ []) []) (dict_block d.dict count places2 new1 new2) (first_with (nothing_in p d.first f1 fill1 spare)) (second_with (nothing_in p d.second f2 fill2 spare))
      c = second_fills f2 fill2 b.n2 b.blocks b.statics (and_call ix (Var 0 ∷ []) []) (dict_block d.dict count places2 new1 new2) (first_with (nothing_in p d.first f1 fill1 spare)) b.have
