-- Two strings, one behind the other.
use Rattle.std.proofs.Common.{◌≡◌, ◌<◌, ◌≤◌, ℕ, zero, suc, ◌+◌, ◌^◌, Bool, true, false, ◌||◌, List, [], ◌∷◌, ◌++◌, length, map, Option, Some, pos, refl, sym, ap, ◌∙◌, subst, arith, length-append}
use Rattle.std.proofs.Math.ListN.{length-replicate, replicate-append-replicate}
use Rattle.std.proofs.lemmas.List.{append-nil, length-map}
use Rattle.std.specs.Prelude.{slice_get, replicate, nat_lt, ◌-◌}
use Rattle.std.proofs.lemmas.Bool.Decides.{nat_tests}
use Rattle.rpy_tree.specs.Value.{Value as Meant, Text}
use Rattle.rpy_tree.specs.declared.syntax.BinOp.TheVariants as bin
use Rattle.rpy_meaning.specs.declared.row.RowOp.TheVariants as row
use Rattle.rpy_meaning.specs.Classes.{no_covers}
use Rattle.rpy_meaning.specs.Operations.{op}
use Rattle.rpy_meaning.specs.Tree.{Program}
use Rattle.rpy_meaning.specs.World.{World, new_text, give}
use Rattle.csub_tree.specs.State.{Value, Unset, Word, Byte, Flag, Block, Core}
use Rattle.csub_tree.specs.Layout.{Shape}
use Rattle.ll_code.specs.State.{Frame, Calling, At}
use Rattle.ll_code.specs.declared.program.LlType.TheVariants as type
use Rattle.ll_code.specs.declared.program.LlProgram.{LlProgram}
use Rattle.ll_held.proofs.Keeping.{tail_in, in_first}
use Rattle.ll_leads.specs.Path.{Leads}
use Rattle.ll_leads.specs.Memory.{forgotten}
use Rattle.ll_leads.proofs.Ways.{on, many, enter, gives, pays, makes, call}
use Rattle.ll_texts.specs.Texts.{IsText, HasText, HasStatics}
use Rattle.ll_texts.specs.Stands.{Stands, text, missing}
use Rattle.ll_texts.specs.Follows.{Follows, Gave, Lacked}
use Rattle.ll_texts.proofs.Reading.{is_set, is_there, gets_length}
use Rattle.ll_texts.proofs.Writing.{part_block, writes_length}
use Rattle.ll_texts.proofs.Numbers.{less_true, less_false, adds}
use Rattle.ll_texts.proofs.Following.{failed}
use Rattle.ll_helpers.specs.Loops.{copy_bytes}
use Rattle.ll_helpers.specs.StringsMake.{string_part, str_add, str_add_makes}
use Rattle.ll_build.specs.declared.needs.Helper.TheVariants as helper
use Rattle.ll_build.specs.declared.needs.Shared.TheVariants as shared
use Rattle.ll_strings.specs.Laws.{IsTwo}
use Rattle.ll_strings.proofs.Copying.{copies}
use Rattle.ll_strings.proofs.Parts.{part_is, bytes_both}
use Rattle.ll_strings.proofs.Results.{by_paying, gave_new, stops, hands}

-- two facts that values are set
pub neither : (a b : Bool) → a ≡ false → b ≡ false → (a || b) ≡ false
neither a b e f = ap (λ c. c || b) e ∙ f

pub bytes_append : (a b : List ℕ) → map Byte (a ++ b) ≡ map Byte a ++ map Byte b
bytes_append [] b = refl
bytes_append (x ∷ a) b = ap (λ l. Byte x ∷ l) (bytes_append a b)

module _ (p : LlProgram) (args : List (List ℕ)) (f table copy part : ℕ) (of : slice_get p.graphs f ≡ Some (str_add copy part)) (copy_of : slice_get p.graphs copy ≡ Some copy_bytes) (texts : HasText p) (frames : List Frame) (core : Core) where
  module _ (x y : Value) (a b : List ℕ) (t : IsText core.blocks core.statics x a) (u : IsText core.blocks core.statics y b) where
    -- where both have bytes, a string is made
    to_makes : 0 < length a → 0 < length b → Leads p args 0 (Calling f (x ∷ y ∷ []) frames core) []
        (At (str_add_makes copy).ops (str_add_makes copy).exit frames (record core { function = f; block = 7; at = 0; vars = x ∷ y ∷ Flag false ∷ Word (pos (length a)) ∷ Word (pos (length b)) ∷ Unset ∷ Unset ∷ [] }))
    unfolding str_add_makes
    to_makes long_a long_b =
        on (enter of refl) (on (gives (Flag false) (is_there t)) (on (many 1 of refl (simp (is_set t, is_set u))) (on (gives (Flag false) (is_there u)) (on (many 1 of refl (simp (is_set t, is_set u)))
        (on (gets_length texts t) (on (gets_length texts u) (on (gives (Flag false) (less_false (length a) 1 (omega arith))) (on (many 1 of refl (simp (is_set t, is_set u)))
        (on (gives (Flag false) (less_false (length b) 1 (omega arith))) (many 1 of refl (simp (is_set t, is_set u))))))))))))

    add_lacks : 0 < length a → 0 < length b → (n : ℕ) → core.steps ≡ n → n < 1 + (length a + length b) → Lacked p args (Calling f (x ∷ y ∷ []) frames core) core
    unfolding str_add_makes
    add_lacks long_a long_b zero e h = stops 1 (to_makes long_a long_b) refl (omega (arith, e)) refl (λ b k. k)
    add_lacks long_a long_b (suc n) e h = second (nat_lt n (length a)) refl
      where
        second : (c : Bool) → nat_lt n (length a) ≡ c → Lacked p args (Calling f (x ∷ y ∷ []) frames core) core
        second true l = stops (length a) (on (to_makes long_a long_b) (pays 1 n refl (omega (arith, e)))) refl (grind (arith, nat_tests, l)) refl (λ b k. k)
        second false l =
            let m : ℕ = n - length a in
            let k : n ≡ length a + m = (let g : length a ≤ n = grind (arith, nat_tests, l) in omega (arith, g)) in
            stops (length b) (on (to_makes long_a long_b) (on (pays 1 n refl (omega (arith, e))) (pays (length a) m refl k))) refl (omega (arith, k, h)) refl (λ b k. k)

    add_paid : 0 < length a → 0 < length b → core.steps < 2 ^ 63 → (w : World) (left : ℕ) → core.steps ≡ 1 + (length a + (length b + left)) → Gave p args (Calling f (x ∷ y ∷ []) frames core) frames core (type.Ptr 0) w (Text (a ++ b)) (record w { left = left })
    unfolding str_add_makes
    add_paid long_a long_b small w left e =
        let la : ℕ = length a in
        let lb : ℕ = length b in
        let room : la + lb < 2 ^ 63 = omega (arith, e, small) in
        let bs : List (Option Block) = core.blocks in
        let fields : List Value = Word (pos (la + lb)) ∷ [] in
        let t2 : IsText bs core.statics x ([] ++ (a ++ [])) = subst (IsText bs core.statics x) (sym (append-nil a)) t in
        let u2 : IsText bs core.statics y ([] ++ (b ++ [])) = subst (IsText bs core.statics y) (sym (append-nil b)) u in
        let first : bs ++ Some (part_block fields (replicate (la + lb) Unset)) ∷ [] ≡ bs ++ Some (part_block fields ([] ++ (replicate la Unset ++ replicate lb Unset))) ∷ [] = ap (λ l. bs ++ Some (part_block fields l) ∷ []) (sym (replicate-append-replicate la lb Unset)) in
        let second : bs ++ Some (part_block fields ([] ++ (map Byte a ++ replicate lb Unset))) ∷ [] ≡ bs ++ Some (part_block fields (map Byte a ++ (replicate lb Unset ++ []))) ∷ [] = ap (λ l. bs ++ Some (part_block fields (map Byte a ++ l)) ∷ []) (sym (append-nil (replicate lb Unset))) in
        let items : map Byte a ++ (map Byte b ++ []) ≡ map Byte (a ++ b) = ap (λ l. map Byte a ++ l) (append-nil (map Byte b)) ∙ sym (bytes_append a b) in
        gave_new left (a ++ b)
        (on (to_makes long_a long_b)
        (on (pays 1 (la + (lb + left)) refl e) (on (pays la (lb + left) refl refl) (on (pays lb left refl refl)
        (on (gives (Word (pos (la + lb))) (adds la lb room))
        (on (makes (la + lb) 1 refl (ap (λ (s : Shape). s.size) texts))
        (on (writes_length bs Unset (replicate (la + lb) Unset) (pos (la + lb)) texts refl refl refl)
        (on (call (simp (is_set t)) (λ waits. copies p args copy copy_of texts waits _ bs x fields [] a [] [] (replicate la Unset) (replicate lb Unset) 0 0 la first t2 (length-replicate la Unset) refl refl refl (omega (arith, room)) (omega (arith, room))))
        (on (call (simp (is_set u)) (λ waits. copies p args copy copy_of texts waits _ bs y fields [] b [] (map Byte a) (replicate lb Unset) [] 0 la lb second u2 (length-replicate lb Unset) refl (sym (length-map a Byte)) refl (omega (arith, room)) (omega (arith, room))))
        (many 1 of refl refl))))))))))
        (ap (λ l. forgotten (record core { blocks = bs ++ Some (part_block fields l) ∷ []; steps = left })) items ∙ ap (λ n. forgotten (record core { blocks = bs ++ Some (part_block (Word (pos n) ∷ []) (map Byte (a ++ b))) ∷ []; steps = left })) (sym (length-append a b)))
        (omega (arith, length-append a b, room)) (bytes_both a b t.small u.small)

  module _ (statics : HasStatics p table core.statics) (part_of : slice_get p.graphs part ≡ Some (string_part table copy)) (small : core.steps < 2 ^ 63) (w : World) (left : w.left ≡ core.steps) where
    both : (x y : Value) (a b : List ℕ) → IsText core.blocks core.statics x a → IsText core.blocks core.statics y b → Follows p args (Calling f (x ∷ y ∷ []) frames core) frames core (type.Ptr 0) w (new_text (a ++ b) w)
    both x y [] b t u =
        let next : Core = record core { function = f; block = 4; at = 0; vars = x ∷ y ∷ Flag true ∷ Word (pos 0) ∷ Word (pos (length b)) ∷ Unset ∷ Unset ∷ [] } in
        hands w (new_text b w)
        (on (enter of refl) (on (gives (Flag false) (is_there t)) (on (many 1 of refl (simp (is_set t, is_set u))) (on (gives (Flag false) (is_there u)) (on (many 1 of refl (simp (is_set t, is_set u)))
        (on (gets_length texts t) (on (gets_length texts u) (on (gives (Flag true) (less_true 0 1 (omega arith))) (many 1 of refl (simp (is_set u)))))))))))
        refl (simp (is_set u)) (λ n k. tail_in n x (y ∷ []) k) (λ n k. k) (λ v. refl)
        (λ waits. part_is p args part table copy part_of copy_of texts waits next w y [] b [] left statics (subst (IsText core.blocks core.statics y) (sym (append-nil b)) u))
    both x y (c ∷ a) [] t u =
        let all : List ℕ = c ∷ a in
        let next : Core = record core { function = f; block = 6; at = 0; vars = x ∷ y ∷ Flag true ∷ Word (pos (length all)) ∷ Word (pos 0) ∷ Unset ∷ Unset ∷ [] } in
        subst (λ l. Follows p args (Calling f (x ∷ y ∷ []) frames core) frames core (type.Ptr 0) w (new_text l w)) (sym (append-nil all))
        (hands w (new_text all w)
        (on (enter of refl) (on (gives (Flag false) (is_there t)) (on (many 1 of refl (simp (is_set t, is_set u))) (on (gives (Flag false) (is_there u)) (on (many 1 of refl (simp (is_set t, is_set u)))
        (on (gets_length texts t) (on (gets_length texts u) (on (gives (Flag false) (less_false (length all) 1 (omega arith))) (on (many 1 of refl (simp (is_set t, is_set u)))
        (on (gives (Flag true) (less_true 0 1 (omega arith))) (many 1 of refl (simp (is_set t)))))))))))))
        refl (simp (is_set t)) (λ n k. in_first n (x ∷ []) (y ∷ []) k) (λ n k. k) (λ v. refl)
        (λ waits. part_is p args part table copy part_of copy_of texts waits next w x [] all [] left statics (subst (IsText core.blocks core.statics x) (sym (append-nil all)) t)))
    both x y (c ∷ a) (d ∷ b) t u =
        let la : ℕ = length (c ∷ a) in
        let lb : ℕ = length (d ∷ b) in
        let whole : length ((c ∷ a) ++ (d ∷ b)) ≡ la + lb = length-append (c ∷ a) (d ∷ b) in
        by_paying frames (type.Ptr 0) w (1 + length ((c ∷ a) ++ (d ∷ b))) (give (Text ((c ∷ a) ++ (d ∷ b))))
        (λ h. add_lacks x y (c ∷ a) (d ∷ b) t u (omega arith) (omega arith) core.steps refl (omega (arith, h, left, whole)))
        (λ n e. add_paid x y (c ∷ a) (d ∷ b) t u (omega arith) (omega arith) small w n (omega (arith, e, left, whole)))

    pub str_add_is : (program : Program) (site : Option ℕ) (x y : Value) (v u : Meant) → Stands core.blocks core.statics (type.Ptr 0) x v → Stands core.blocks core.statics (type.Ptr 0) y u
        → Follows p args (Calling f (x ∷ y ∷ []) frames core) frames core (type.Ptr 0) w (op program no_covers (row.Binary bin.Add site) (v ∷ u ∷ []) w)
    str_add_is program site x y v u (text z a t) (text z2 b s) = both x y a b t s
    str_add_is program site x y v u (text z a t) missing = failed (on (enter of refl) (on (gives (Flag false) (is_there t)) (on (many 1 of refl (simp (is_set t))) (many 2 of refl refl)))) refl
    str_add_is program site x y v u missing (text z2 b s) = failed (on (enter of refl) (many 2 of refl refl)) refl
    str_add_is program site x y v u missing missing = failed (on (enter of refl) (many 2 of refl refl)) refl

pub add_is : (site : Option ℕ) → IsTwo helper.StrAdd (type.Ptr 0) (type.Ptr 0) (type.Ptr 0) (row.Binary bin.Add site)
add_is site program p args numbers f frames core w h left x y v u s r =
    str_add_is p args f numbers.table numbers.copy_bytes numbers.string_part h.graph (h.shared shared.CopyBytes refl) h.text frames core (h.statics refl) (h.shared shared.StringPart refl) (omega (arith, h.small)) w left program site x y v u s r
