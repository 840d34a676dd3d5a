-- Strings and truth values are printed.
use Rattle.std.proofs.Common.{◌≡◌, ◌<◌, ℕ, ◌+◌, ◌^◌, true, false, List, [], ◌∷◌, ◌++◌, length, Some, pos, refl, sym, ap, ◌∙◌, subst, arith, append_assoc, length-append}
use Rattle.std.proofs.lemmas.Bool.Decides.{nat_tests}
use Rattle.std.proofs.lemmas.List.{append-nil}
use Rattle.std.specs.Prelude.{slice_get, cond, nat_lt}
use Rattle.rpy_tree.specs.Value.{Value as Meant, Word as MeantWord}
use Rattle.rpy_meaning.specs.declared.row.RowOp.TheVariants as row
use Rattle.rpy_meaning.specs.Classes.{no_covers}
use Rattle.rpy_meaning.specs.Operations.{op}
use Rattle.rpy_meaning.specs.World.{World}
use Rattle.csub_tree.specs.State.{Value, Unset, Word, Byte, Flag, Core, Puts as PutsByte, Stuck}
use Rattle.csub_tree.specs.Statement.{operand, put_byte}
use Rattle.csub_tree.specs.declared.stuck.StuckReason.TheVariants.{Word as BadWord}
use Rattle.csub_tree.specs.declared.tree.COperand.{COperand}
use Rattle.ll_code.specs.State.{Frame, State, Calling, At, Returning}
use Rattle.ll_code.specs.Machine.{goes_on}
use Rattle.ll_code.specs.declared.program.LlType.{LlType}
use Rattle.ll_code.specs.declared.program.LlType.TheVariants as type
use Rattle.ll_code.specs.declared.program.LlOp.{LlOp}
use Rattle.ll_code.specs.declared.program.LlOp.TheVariants as op
use Rattle.ll_code.specs.declared.program.LlExit.{LlExit}
use Rattle.ll_code.specs.declared.program.LlProgram.{LlProgram}
use Rattle.ll_leads.specs.Path.{Leads}
use Rattle.ll_leads.specs.Memory.{forgotten}
use Rattle.ll_leads.proofs.Ways.{Comes, on, then, behind, put, many, enter, gives, call}
use Rattle.ll_texts.specs.Texts.{IsText, HasText}
use Rattle.ll_texts.specs.Stands.{Stands, word, flag, text, missing, nothing}
use Rattle.ll_texts.specs.Follows.{Gave}
use Rattle.ll_texts.proofs.Reading.{is_set, is_there, gets_length, gets_byte, get_mid}
use Rattle.ll_texts.proofs.Numbers.{fits_count, less_true, less_false, adds}
use Rattle.ll_helpers.specs.Loops.{put_bytes, put_bytes_test}
use Rattle.ll_build.specs.declared.needs.Helper.TheVariants as helper
use Rattle.ll_build.specs.declared.needs.Shared.TheVariants as shared
use Rattle.ll_strings.specs.Laws.{Does, Shows}
use Rattle.ll_strings.proofs.Parts.{bytes_second}

module _ {p : LlProgram} {args : List (List ℕ)} {ops : List LlOp} {e : LlExit} {frames : List Frame} {core : Core} where
  -- a byte is put
  pub puts : {x : COperand} (byte : ℕ) → operand core.vars x ≡ Word (pos byte) → byte < 256 → Leads p args 0 (At (op.Put x ∷ ops) e frames core) (byte ∷ []) (At ops e frames (record core { at = core.at + 1 }))
  puts byte h small =
      let fits : nat_lt byte 256 ≡ true = grind (arith, nat_tests, small) in
      put (ap (λ v. goes_on (At ops e frames) (put_byte core v)) h ∙ ap (λ b. goes_on (At ops e frames) (cond b (PutsByte byte (record core { at = core.at + 1 })) (Stuck BadWord))) fits) refl

-- a byte, and then the rest
pub after : {p : LlProgram} {args : List (List ℕ)} {s t u : State} {byte : ℕ} {rest : List ℕ} → Leads p args 0 s (byte ∷ []) t → Leads p args 0 t rest u → Leads p args 0 s (byte ∷ rest) u
after a b = behind a b

module _ {p : LlProgram} {args : List (List ℕ)} {s : State} {frames : List Frame} {core : Core} where
  -- a text was put
  pub gave_put : {t : LlType} {w : World} {v : Meant} {value : Value} {end : Core} (put_text : List ℕ) → w.left ≡ core.steps → Leads p args 0 s put_text (Returning value frames end) → forgotten end ≡ forgotten core → Stands core.blocks core.statics t value v → Gave p args s frames core t w v (record w { out = w.out ++ put_text })
  gave_put {t = t} {w = w} {v = v} {value = value} {end = end} put_text left l m st = record {
    value = value;
    end = end;
    text = put_text;
    leads = l;
    texts = [];
    few = omega arith;
    memory = m ∙ ap (λ (c : Core). forgotten c) (ap (λ bs. record core { blocks = bs }) (sym (append-nil core.blocks)) ∙ ap (λ n. record core { blocks = core.blocks ++ []; steps = n }) (sym left));
    stands = subst (λ (c : Core). Stands c.blocks c.statics t value v) (sym m) st;
    out = refl;
    heap = refl;
  }

module _ (p : LlProgram) (args : List (List ℕ)) (putting : ℕ) (of : slice_get p.graphs putting ≡ Some put_bytes) (texts : HasText p) (frames : List Frame) (core : Core) (x : Value) where
  put_all : (pre xs : List ℕ) (i n : ℕ) (a b c : Value) → IsText core.blocks core.statics x (pre ++ xs) → i ≡ length pre → n ≡ i + length xs → n < 2 ^ 63
      → Comes p args (At put_bytes_test.ops put_bytes_test.exit frames (record core { function = putting; block = 1; at = 0; vars = x ∷ Word (pos n) ∷ Word (pos i) ∷ a ∷ b ∷ c ∷ [] })) xs Unset frames core
  put_all pre [] i n a b c t ei en nb = record {
    end = _;
    same = refl;
    leads = on (gives (Flag false) (less_false i n (omega (arith, en)))) (many 2 of refl refl);
  }
  put_all pre (k ∷ xs) i n a b c t ei en nb =
      let ih = put_all (pre ++ k ∷ []) xs (i + 1) n (Flag true) (Byte k) (Word (pos k)) (subst (IsText core.blocks core.statics x) (sym (append_assoc pre (k ∷ []) xs)) t) (omega (arith, ei, length-append pre (k ∷ []))) (omega (arith, en)) nb in
      record {
        end = ih.end;
        same = ih.same;
        leads =
            on (gives (Flag true) (less_true i n (omega (arith, en)))) (on (many 1 of refl (simp (is_set t))) (on (gets_byte i k texts t refl (get_mid pre k xs i ei)) (on (many 1 of refl refl)
            (after (puts k refl (bytes_second pre (k ∷ xs) t.small).0) (on (gives (Word (pos (i + 1))) (adds i 1 (omega (arith, en, nb)))) (on (many 1 of refl (simp (is_set t))) ih.leads))))));
      }

  pub puts_all : (bytes : List ℕ) → IsText core.blocks core.statics x bytes → Comes p args (Calling putting (x ∷ []) frames core) bytes Unset frames core
  puts_all bytes t = (let c = put_all [] bytes 0 (length bytes) Unset Unset Unset t refl (omega arith) t.short in
      record { end = c.end; same = c.same; leads = on (enter of refl) (on (gets_length texts t) (on (many 1 of refl (simp (is_set t))) c.leads)) })

pub print_str_is : Shows helper.PrintStr (type.Ptr 0)
print_str_is program p args numbers f frames core w h left x v (text x2 bytes t) =
    gave_put bytes left (on (enter h.graph refl) (on (gives (Flag false) (is_there t)) (on (many 1 h.graph refl (simp (is_set t)))
    (then (call (simp (is_set t)) (λ waits. puts_all p args numbers.put_bytes (h.shared shared.PutBytes refl) h.text waits _ x bytes t)) (many 1 h.graph refl refl))))) refl nothing
print_str_is program p args numbers f frames core w h left x v missing = tt

-- `os.write(1, s)`
pub write_is : Does helper.StrWrite (type.Ptr 0) type.Signed (λ program v. op program no_covers row.Write (MeantWord (pos 1) ∷ v ∷ []))
write_is program p args numbers f frames core w h left x v (text x2 bytes t) =
    gave_put bytes left (on (enter h.graph refl) (on (gives (Flag false) (is_there t)) (on (many 1 h.graph refl (simp (is_set t)))
    (then (call (simp (is_set t)) (λ waits. puts_all p args numbers.put_bytes (h.shared shared.PutBytes refl) h.text waits _ x bytes t)) (on (gets_length h.text t) (many 1 h.graph refl refl)))))) refl (word (pos (length bytes)) (fits_count (length bytes) t.short))
write_is program p args numbers f frames core w h left x v missing = tt

pub print_bool_is : Shows helper.PrintBool type.Bool
print_bool_is program p args numbers f frames core w h left x v (flag true) =
    gave_put (84 ∷ 114 ∷ 117 ∷ 101 ∷ []) left (on (enter h.graph refl) (on (many 1 h.graph refl refl) (after (puts 84 refl (omega arith)) (after (puts 114 refl (omega arith)) (after (puts 117 refl (omega arith)) (after (puts 101 refl (omega arith)) (many 1 h.graph refl refl))))))) refl nothing
print_bool_is program p args numbers f frames core w h left x v (flag false) =
    gave_put (70 ∷ 97 ∷ 108 ∷ 115 ∷ 101 ∷ []) left (on (enter h.graph refl) (on (many 1 h.graph refl refl) (after (puts 70 refl (omega arith)) (after (puts 97 refl (omega arith)) (after (puts 108 refl (omega arith)) (after (puts 115 refl (omega arith)) (after (puts 101 refl (omega arith)) (many 1 h.graph refl refl)))))))) refl nothing
