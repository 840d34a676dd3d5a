-- The graph that hashes tuples: the fields one after the other.
use Rattle.std.proofs.Common.{◌≡◌, ◌<◌, ◌≤◌, ◌⊎◌, ℕ, ◌+◌, ◌||◌, true, false, ℤ, List, [], ◌∷◌, ◌++◌, length, Option, Some, None, refl, sym, ap, ◌∙◌, subst, arith, append_assoc, length-append}
use Rattle.std.specs.Int.{w64, int_bit_xor}
use Rattle.std.proofs.lemmas.List.{append-nil, length-set}
use Rattle.ann_element.specs.declared.element.Element.{Element}
use Rattle.csub_tree.specs.State.{Value, Word, Block, Core}
use Rattle.csub_tree.specs.Layout.{shape_at, shape_over}
use Rattle.csub_tree.specs.Operation.{is_unset, binary_of}
use Rattle.csub_tree.specs.Statement.{operand, read}
use Rattle.csub_tree.specs.declared.tree.CBinary.TheVariants as binary
use Rattle.csub_tree.specs.declared.tree.COperand.{COperand}
use Rattle.csub_tree.specs.declared.tree.COperand.TheVariants.{Var}
use Rattle.ll_build.specs.Build.{word as word_operand}
use Rattle.ll_code.specs.Machine.{shapes_of}
use Rattle.ll_code.specs.State.{Frame, Calling, At}
use Rattle.ll_code.specs.declared.program.LlType.{LlType}
use Rattle.ll_code.specs.declared.program.LlType.TheVariants as type
use Rattle.ll_code.specs.declared.program.LlOp.{LlOp}
use Rattle.ll_code.specs.declared.program.LlOp.TheVariants as op
use Rattle.ll_code.specs.declared.program.LlExit.{LlExit}
use Rattle.ll_code.specs.declared.program.LlProgram.{LlProgram}
use Rattle.ll_leads.specs.Path.{Leads}
use Rattle.ll_leads.proofs.Ways.{Comes, on, gives, rests}
use Rattle.ll_texts.specs.Texts.{found}
use Rattle.rpy_tree.specs.Value.{Value as Meant, Values, none, more}
use Rattle.rpy_meaning.specs.Sequences.{parts_of}
use Rattle.rtyper_layout.specs.declared.layout.Layout.{Layout}
use Rattle.rtyper_layout.specs.Dicts.{is_plain}
use Rattle.rtyper_op.specs.Mapped.{mixed, with_item}
use Rattle.rtyper_data.specs.declared.body.Body.{Body}
use Rattle.rtyper_data.specs.declared.found.Found.{Found}
use Rattle.rtyper_data.specs.declared.small.Keyed.TheVariants as keyed
use Rattle.rtyper_data.specs.Comparing.{alone}
use Rattle.rtyper_data.specs.Converting.{by_small}
use Rattle.rtyper_data.specs.Seen.{Writing, writing}
use Rattle.rtyper_dict.specs.Hashing.{hash_factor, hash_of, hashed, item_mixed, items_mixed, key_item, with_item as with_item_written}
use Rattle.rtyper_dict.specs.Parts.{keyed_number, stored}
use Rattle.list_shape.specs.Shapes.{taking}
use Rattle.lower_laws.specs.Values.{IsBelow}
use Rattle.lower_laws.proofs.Doing.{after}
use Rattle.object_laws.specs.Dicts.{as_item, hash, hash_from}
use Rattle.object_laws.specs.Ghost.{Ghost, Stays, use_of}
use Rattle.object_laws.specs.Known.{Known}
use Rattle.object_laws.specs.Values.{AllHold, Holds, Next, End, Stands}
use Rattle.object_laws.proofs.Blocks.{reads_field}
use Rattle.object_laws.proofs.Passing.{Passed, both_passed, calls_at, is_set_at, none_passed, operand_kept, sets_more}
use Rattle.conversion_laws.proofs.Casting.{read_mid}
use Rattle.dict_find_laws.specs.Asked.{fields_asked}
use Rattle.dict_find_laws.specs.Keys.{AllAreThere, IsThere}
use Rattle.dict_find_laws.proofs.Worth.{as_item_set}
use Rattle.dict_find_laws.proofs.Ready.{Stored, Went, kept_as, stored_key_ready}

-- what stays is what it is
abbrev pub Staying : Ghost → List (Option Block) → List Block → Type 0
Staying g blocks statics = (x : Value) (block : Block) → use_of g x ≡ Some (Stays block) → found blocks statics x ≡ Some block

-- as a key stands in an array it is hashed
pub kept_item : (t : LlType) → kept_as t ≡ key_item t
kept_item type.Signed = refl
kept_item type.Bool = refl
kept_item type.Char = refl
kept_item type.Void = refl
kept_item type.Fn = refl
kept_item (type.Ptr n) = refl

abbrev pub tuple_block : ℕ → List Value → Block
tuple_block n xs = record { kind = n; fields = xs; items = [] }

module _ (layout : Layout) where
  -- the hash so far, with those of the fields
  abbrev pub folded : ℤ → List LlType → Values → ℤ
  folded h [] vs = h
  folded h (t ∷ ts) none = h
  folded h (t ∷ ts) (more v vs) = folded (with_item h (hash layout t v)) ts vs

  pub hash_folded : (h : ℤ) (ts : List LlType) (vs : Values) → hash_from layout h ts vs ≡ mixed (folded h ts vs)
  hash_folded h [] vs = refl
  hash_folded h (t ∷ ts) none = refl
  hash_folded h (t ∷ ts) (more v vs) = hash_folded (with_item h (hash layout t v)) ts vs

module _ (p : LlProgram) (args : List (List ℕ)) (layout : Layout) (known : Known) where
  -- a value of this type is hashed by a call
  pub record IsHashed (t : LlType) (seen : Option Element) (f : ℕ) (g : Ghost) (core : Core) (x : Value) (v : Meant) : Type 0 where
    pub set : is_unset x ≡ false
    pub stands : is_plain t ≡ true → Stands g t x v
    pub comes : (waits : List Frame) → Comes p args (Calling f (as_item t (kept_as t) x ∷ []) waits core) [] (Word (hash layout t v)) waits core

  abbrev pub Hashes : LlType → Option Element → ℕ → Type 0
  Hashes t seen f = (g : Ghost) (core : Core) (x : Value) (v : Meant) → Staying g core.blocks core.statics → Holds layout known g seen x v → IsThere v → IsHashed t seen f g core x v

  -- each field, by the graph that is asked for in turn
  abbrev pub AllHash : List LlType → List Element → Found → Type 0
  AllHash [] [] found = Unit {0}
  AllHash (t ∷ ts) (part ∷ parts) found = Hashes t (Some part) (keyed_number (keyed.Hash (key_item t)) found).0 × AllHash ts parts (keyed_number (keyed.Hash (key_item t)) found).1
  AllHash ts parts found = ⊥

  abbrev pub AllSorts : List LlType → Type 0
  AllSorts [] = Unit {0}
  AllSorts (t ∷ ts) = ((is_plain t ≡ true) ⊎ ((q : ℕ) × (t ≡ type.Ptr q))) × AllSorts ts

  -- what is written for the fields from a place on, and what it does: the hash of what came before is mixed with theirs
  pub record Mixed (n i : ℕ) (ts : List LlType) (h : COperand) (w : Writing) : Type 0 where
    pub y : COperand
    pub ops : List LlOp
    pub new : List LlType
    pub written : items_mixed n i ts (h, w) ≡ (y, writing (fields_asked ts w.found) (record { types = w.body.types ++ new; ops = w.body.ops ++ ops }))
    pub follows : (parts : List Element) (before xs : List Value) (vs : List Meant) (X : Value) (acc : ℤ) (g : Ghost) (rest : List LlOp) (e : LlExit) (frames : List Frame) (core : Core)
        → AllHash ts parts w.found → Staying g core.blocks core.statics → use_of g X ≡ Some (Stays (tuple_block n (before ++ xs))) → i ≡ length before → AllHold layout known g parts xs vs → AllAreThere (parts_of vs)
        → (k : ℕ) → shape_at (shapes_of p.structs) n ≡ shape_over n k None → read core.vars 0 ≡ X → 0 < length w.body.types → IsBelow (length w.body.types) h → operand core.vars h ≡ Word acc → length w.body.types + length new ≤ length core.vars
        → Went p args (At (ops ++ rest) e frames core) rest e frames core (length w.body.types) y (Word (folded layout acc ts (parts_of vs)))

  module _ (n i : ℕ) (t : LlType) (h : COperand) (w : Writing) (sort : (is_plain t ≡ true) ⊎ ((q : ℕ) × (t ≡ type.Ptr q))) where
    abbrev m0 : ℕ
    m0 = length w.body.types

    abbrev body1 : Body
    body1 = record { types = w.body.types ++ t ∷ []; ops = w.body.ops ++ op.GetField m0 n 0 i ∷ [] }

    pub S : Stored t (Var m0) body1
    S = stored_key_ready (Var m0) body1 t sort

    abbrev types2 : List LlType
    types2 = body1.types ++ S.new

    abbrev m1 : ℕ
    m1 = length types2

    abbrev m2 : ℕ
    m2 = length (types2 ++ type.Signed ∷ [])

    abbrev m3 : ℕ
    m3 = length ((types2 ++ type.Signed ∷ []) ++ type.Signed ∷ [])

    abbrev f : ℕ
    f = (keyed_number (keyed.Hash (key_item t)) w.found).0

    abbrev last_ops : List LlOp
    last_ops = op.Call (Some m1) f (S.y ∷ []) ∷ op.Binary m2 binary.Xor h (Var m1) ∷ op.Binary m3 binary.Mul (Var m2) (word_operand hash_factor) ∷ []

    abbrev one_ops : List LlOp
    one_ops = op.GetField m0 n 0 i ∷ (S.ops ++ last_ops)

    abbrev one_new : List LlType
    one_new = t ∷ (S.new ++ type.Signed ∷ type.Signed ∷ type.Signed ∷ [])

    abbrev w2 : Writing
    w2 = writing (keyed_number (keyed.Hash (key_item t)) w.found).1 (record { types = w.body.types ++ one_new; ops = w.body.ops ++ one_ops })

    abbrev mixes_from : COperand × Body → COperand × Writing
    mixes_from x = taking (hash_of (key_item t) w.found x) (λ x next. alone next.found (with_item_written h x next.body))

    four : {A : Type 0} (xs ys : List A) (a b c d : A) → ((((xs ++ a ∷ []) ++ ys) ++ b ∷ []) ++ c ∷ []) ++ d ∷ [] ≡ xs ++ (a ∷ (ys ++ (b ∷ c ∷ d ∷ [])))
    four xs ys a b c d =
        append_assoc (((xs ++ a ∷ []) ++ ys) ++ b ∷ []) (c ∷ []) (d ∷ []) ∙ append_assoc ((xs ++ a ∷ []) ++ ys) (b ∷ []) (c ∷ d ∷ []) ∙ append_assoc (xs ++ a ∷ []) ys (b ∷ c ∷ d ∷ []) ∙ append_assoc xs (a ∷ []) (ys ++ (b ∷ c ∷ d ∷ []))

    one_is : item_mixed n i t h w ≡ (Var m3, w2)
    unfolding item_mixed hashed by_small with_item_written
    one_is =
        ap (λ u. mixes_from (stored t u (Var m0) body1)) (sym (kept_item t))
        ∙ ap mixes_from S.written
        ∙ ap (λ ts. (Var m3, writing w2.found (record { types = ts; ops = (((body1.ops ++ S.ops) ++ op.Call (Some m1) f (S.y ∷ []) ∷ []) ++ op.Binary m2 binary.Xor h (Var m1) ∷ []) ++ op.Binary m3 binary.Mul (Var m2) (word_operand hash_factor) ∷ [] }))) (four w.body.types S.new t type.Signed type.Signed type.Signed)
        ∙ ap (λ os. (Var m3, writing w2.found (record { types = w.body.types ++ one_new; ops = os }))) (four w.body.ops S.ops (op.GetField m0 n 0 i) (op.Call (Some m1) f (S.y ∷ [])) (op.Binary m2 binary.Xor h (Var m1)) (op.Binary m3 binary.Mul (Var m2) (word_operand hash_factor)))

    m1_is : m1 ≡ m0 + 1 + length S.new
    m1_is = (let a = length-append (w.body.types ++ t ∷ []) S.new in let b = length-append w.body.types (t ∷ []) in omega (arith, a, b))

    m2_is : m2 ≡ m1 + 1
    m2_is = length-append types2 (type.Signed ∷ [])

    m3_is : m3 ≡ m1 + 2
    m3_is = (let a = length-append (types2 ++ type.Signed ∷ []) (type.Signed ∷ []) in omega (arith, a, m2_is))

    one_long : length one_new ≡ length S.new + 4
    one_long = (let a = length-append S.new (type.Signed ∷ type.Signed ∷ type.Signed ∷ []) in omega (arith, a))

    w2_long : length w2.body.types ≡ m3 + 1
    w2_long = (let a = length-append w.body.types one_new in omega (arith, a, one_long, m1_is, m3_is))

    module _ (part : Element) (before xs : List Value) (a X : Value) (v : Meant) (acc : ℤ) (g : Ghost) (rest : List LlOp) (e : LlExit) (frames : List Frame) (core : Core) (hashes : Hashes t (Some part) f) (stays : Staying g core.blocks core.statics)
        (used : use_of g X ≡ Some (Stays (tuple_block n (before ++ a ∷ xs)))) (at : i ≡ length before) (held : Holds layout known g (Some part) a v) (there : IsThere v) (k : ℕ) (shape : shape_at (shapes_of p.structs) n ≡ shape_over n k None)
        (first : read core.vars 0 ≡ X) (some : 0 < m0) (h_below : IsBelow m0 h) (h_is : operand core.vars h ≡ Word acc) (room : m0 + length one_new ≤ length core.vars) where
      abbrev z : ℤ
      z = hash layout t v

      is_block : found core.blocks core.statics (read core.vars 0) ≡ Some (tuple_block n (before ++ a ∷ xs))
      is_block = ap (λ x. found core.blocks core.statics x) first ∙ stays X (tuple_block n (before ++ a ∷ xs)) used

      it : IsHashed t (Some part) f g core a v
      it = hashes g core a v stays held there

      abbrev read_it : Core
      read_it = after core m0 a

      read_long : length read_it.vars ≡ length core.vars
      read_long = length-set core.vars m0 a

      there_is : operand read_it.vars (Var m0) ≡ a
      there_is = is_set_at core m0 a (omega (arith, room, one_long))

      pub went : Went p args (At (S.ops ++ (last_ops ++ rest)) e frames read_it) (last_ops ++ rest) e frames read_it (length body1.types) S.y (as_item t (kept_as t) (operand read_it.vars (Var m0)))
      went = S.enters p args (last_ops ++ rest) e frames read_it g v (let b = length-append w.body.types (t ∷ []) in omega (arith, room, one_long, read_long, b)) (λ plain. subst (λ x. Stands g t x v) (sym there_is) (it.stands plain))

      abbrev kept : Value
      kept = as_item t (kept_as t) a

      kept_is : operand went.mid.vars S.y ≡ kept
      kept_is = went.is ∙ ap (as_item t (kept_as t)) there_is

      abbrev called : Core
      called = after went.mid m1 (Word z)

      abbrev xored : Core
      xored = after called m2 (Word (int_bit_xor w64 acc z))

      abbrev last : Core
      last = after xored m3 (Word (with_item acc z))

      passed0 : Passed m0 core read_it
      passed0 = sets_more m0 a (omega arith) none_passed

      passed1 : Passed m0 core went.mid
      passed1 = both_passed (let b = length-append w.body.types (t ∷ []) in omega (arith, b)) passed0 went.passed

      passed2 : Passed m0 core called
      passed2 = sets_more m1 (Word z) (omega (arith, m1_is)) passed1

      passed3 : Passed m0 core xored
      passed3 = sets_more m2 (Word (int_bit_xor w64 acc z)) (omega (arith, m1_is, m2_is)) passed2

      pub passed4 : Passed m0 core last
      passed4 = sets_more m3 (Word (with_item acc z)) (omega (arith, m1_is, m3_is)) passed3

      kept_set : is_unset kept ≡ false
      kept_set = as_item_set t (kept_as t) a it.set

      comes : (waits : List Frame) → Comes p args (Calling f (kept ∷ []) waits went.mid) [] (Word z) waits went.mid
      comes waits = (hashes g went.mid a v (subst (λ (c : Core). Staying g c.blocks c.statics) (sym passed1.memory) stays) held there).comes waits

      call_is : operand called.vars (Var m1) ≡ Word z
      call_is = is_set_at went.mid m1 (Word z) (let q = passed1.room in omega (arith, room, one_long, m1_is, q))

      h_here : operand called.vars h ≡ Word acc
      h_here = operand_kept passed2 h h_below ∙ h_is

      xor_is : operand xored.vars (Var m2) ≡ Word (int_bit_xor w64 acc z)
      xor_is = is_set_at called m2 (Word (int_bit_xor w64 acc z)) (let q = passed2.room in omega (arith, room, one_long, m1_is, m2_is, q))

      pub last_is : operand last.vars (Var m3) ≡ Word (with_item acc z)
      last_is = is_set_at xored m3 (Word (with_item acc z)) (let q = passed3.room in omega (arith, room, one_long, m1_is, m3_is, q))

      pub one_way : Leads p args 0 (At (op.GetField m0 n 0 i ∷ (S.ops ++ (last_ops ++ rest))) e frames core) [] (At rest e frames last)
      unfolding with_item
      one_way =
          on (reads_field k (tuple_block n (before ++ a ∷ xs)) a shape is_block refl it.set i (read_mid before a xs i at))
          (on went.way
          (on (calls_at (ap (λ y. y ∷ []) kept_is) (ap (λ b. b || false) kept_set) comes)
          (on (gives (Word (int_bit_xor w64 acc z)) (ap (λ y. binary_of binary.Xor y (operand called.vars (Var m1))) h_here ∙ ap (binary_of binary.Xor (Word acc)) call_is))
          (gives (Word (with_item acc z)) (ap (λ y. binary_of binary.Mul y (Word hash_factor)) xor_is)))))

  -- ---- all

  -- one field and those behind it
  module _ (n i : ℕ) (t : LlType) (ts : List LlType) (h : COperand) (w : Writing) (sort : (is_plain t ≡ true) ⊎ ((q : ℕ) × (t ≡ type.Ptr q))) (later : Mixed n (i + 1) ts (Var (m3 n i t h w sort)) (w2 n i t h w sort)) where
    new_long : length (one_new n i t h w sort ++ later.new) ≡ length (one_new n i t h w sort) + length later.new
    new_long = length-append (one_new n i t h w sort) later.new

    follow : (parts : List Element) (before xs : List Value) (vs : List Meant) (X : Value) (acc : ℤ) (g : Ghost) (rest : List LlOp) (e : LlExit) (frames : List Frame) (core : Core)
        → AllHash (t ∷ ts) parts w.found → Staying g core.blocks core.statics → use_of g X ≡ Some (Stays (tuple_block n (before ++ xs))) → i ≡ length before → AllHold layout known g parts xs vs → AllAreThere (parts_of vs)
        → (k : ℕ) → shape_at (shapes_of p.structs) n ≡ shape_over n k None → read core.vars 0 ≡ X → 0 < length w.body.types → IsBelow (length w.body.types) h → operand core.vars h ≡ Word acc → length w.body.types + length (one_new n i t h w sort ++ later.new) ≤ length core.vars
        → Went p args (At ((one_ops n i t h w sort ++ later.ops) ++ rest) e frames core) rest e frames core (length w.body.types) later.y (Word (folded layout acc (t ∷ ts) (parts_of vs)))
    follow parts before xs vs X acc g rest e frames core all stays used at End there k shape first some below is room = absurd all
    follow (part ∷ parts) before _ _ X acc g rest e frames core all stays used at (Next {x = a} {xs = xs} {v = v} {vs = vs} held more_held) there k shape first some below is room =
        let room1 : length w.body.types + length (one_new n i t h w sort) ≤ length core.vars = omega (arith, room, new_long) in
        let mid : Core = last n i t h w sort part before xs a X v acc g (later.ops ++ rest) e frames core all.0 stays used at held there.0 k shape first some below is room1 in
        let passed : Passed (length w.body.types) core mid = passed4 n i t h w sort part before xs a X v acc g (later.ops ++ rest) e frames core all.0 stays used at held there.0 k shape first some below is room1 in
        let long = w2_long n i t h w sort in
        let m3_so = m3_is n i t h w sort in
        let m1_so = m1_is n i t h w sort in
        let one_so = one_long n i t h w sort in
        let longer : length (before ++ a ∷ []) ≡ length before + 1 = length-append before (a ∷ []) in
        let wide : length mid.vars ≡ length core.vars = passed.room in
        let R = later.follows parts (before ++ a ∷ []) xs vs X (with_item acc (hash layout t v)) g rest e frames mid all.1 (subst (λ (c : Core). Staying g c.blocks c.statics) (sym passed.memory) stays)
        (subst (λ fields. use_of g X ≡ Some (Stays (tuple_block n fields))) (sym (append_assoc before (a ∷ []) xs)) used) (omega (arith, at, longer)) more_held there.1 k shape (passed.others 0 some ∙ first)
        (omega (arith, long)) (omega (arith, long)) (last_is n i t h w sort part before xs a X v acc g (later.ops ++ rest) e frames core all.0 stays used at held there.0 k shape first some below is room1)
        (omega (arith, room, new_long, long, m3_so, m1_so, one_so, wide)) in
        record {
          mid = R.mid;
          way = subst (λ ops. Leads p args 0 (At ops e frames core) [] (At rest e frames R.mid))
              (sym (append_assoc (one_ops n i t h w sort) later.ops rest ∙ ap (λ l. op.GetField (m0 n i t h w sort) n 0 i ∷ l) (append_assoc (S n i t h w sort).ops (last_ops n i t h w sort) (later.ops ++ rest))))
              (on (one_way n i t h w sort part before xs a X v acc g (later.ops ++ rest) e frames core all.0 stays used at held there.0 k shape first some below is room1) R.way);
          passed = both_passed (omega (arith, long, m3_so, m1_so)) passed R.passed;
          is = R.is;
        }

    mixes_more : Mixed n i (t ∷ ts) h w
    mixes_more = record {
      y = later.y;
      ops = one_ops n i t h w sort ++ later.ops;
      new = one_new n i t h w sort ++ later.new;
      written = ap (λ made. items_mixed n (i + 1) ts made) (one_is n i t h w sort) ∙ later.written
          ∙ ap (λ types. (later.y, writing (fields_asked (t ∷ ts) w.found) (record { types = types; ops = (w.body.ops ++ one_ops n i t h w sort) ++ later.ops }))) (append_assoc w.body.types (one_new n i t h w sort) later.new)
          ∙ ap (λ os. (later.y, writing (fields_asked (t ∷ ts) w.found) (record { types = w.body.types ++ (one_new n i t h w sort ++ later.new); ops = os }))) (append_assoc w.body.ops (one_ops n i t h w sort) later.ops);
      follows = follow;
    }

  pub mixes : (n i : ℕ) (ts : List LlType) (h : COperand) (w : Writing) → AllSorts ts → Mixed n i ts h w
  mixes n i [] h w sorts = record {
    y = h;
    ops = [];
    new = [];
    written = ap (λ ts. (h, writing w.found (record { types = ts; ops = w.body.ops }))) (sym (append-nil w.body.types)) ∙ ap (λ os. (h, writing w.found (record { types = w.body.types ++ []; ops = os }))) (sym (append-nil w.body.ops));
    follows = follow;
  }
    where
      follow : (parts : List Element) (before xs : List Value) (vs : List Meant) (X : Value) (acc : ℤ) (g : Ghost) (rest : List LlOp) (e : LlExit) (frames : List Frame) (core : Core)
          → AllHash [] parts w.found → Staying g core.blocks core.statics → use_of g X ≡ Some (Stays (tuple_block n (before ++ xs))) → i ≡ length before → AllHold layout known g parts xs vs → AllAreThere (parts_of vs)
          → (k : ℕ) → shape_at (shapes_of p.structs) n ≡ shape_over n k None → read core.vars 0 ≡ X → 0 < length w.body.types → IsBelow (length w.body.types) h → operand core.vars h ≡ Word acc → length w.body.types + 0 ≤ length core.vars
          → Went p args (At rest e frames core) rest e frames core (length w.body.types) h (Word (folded layout acc [] (parts_of vs)))
      follow parts before xs vs X acc g rest e frames core all stays used at held there k shape first some below is room = record { mid = core; way = rests; passed = none_passed; is = is }
  mixes n i (t ∷ ts) h w sorts = mixes_more n i t ts h w sorts.0 (mixes n (i + 1) ts (Var (m3 n i t h w sorts.0)) (w2 n i t h w sorts.0) sorts.1)
