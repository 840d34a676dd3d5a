-- A worked row with every form of statement, expression and target but those of the other rows: the graph that `rpy flow` writes of this
-- function stands for it, where C is a class with an attribute x, and LIMIT is 5.
--     def f(l, d):
--         out = [i * 2 for i in l if i > 1]
--         for k in d:
--             d[k] += 1
--         for a, b in l:
--             if a and not (b or a):
--                 continue
--             else:
--                 break
--         c = C(LIMIT)
--         c.x -= 1
--         c.x, out[0] = l
--         y = a or b
--         z = not (a and b)
--         try:
--             y = out[7]
--         except (IndexError, KeyError), e:
--             z = None
--         except ValueError:
--             del out[0]
--         except:
--             pass
--         else:
--             y = 1
--         for i in range(2, a, 3):
--             pass
--         for i in range(a):
--             assert i < b
--         if z is not None:
--             return y
--         x = d[1] = c.get()
--         try:
--             raise c
--         finally:
--             while isinstance(x, C):
--                 x = None
--         return {1: x, 2: y}
use Rattle.std.proofs.Common.{◌≡◌, ℕ, List, [], ◌∷◌, Bool, true, false, inl, inr, Option, Some, None, refl, sym, ap, ◌∙◌, arith, codes}
use Rattle.std.specs.Prelude.{pos}
use Rattle.rpy_tree.specs.declared.program.Const as Const
use Rattle.rpy_tree.specs.declared.program.Const.TheVariants as const
use Rattle.rpy_tree.specs.declared.program.Const.TheViews as views
use Rattle.rpy_tree.specs.declared.program.Const.TheOpen.{Const-F}
use Rattle.rpy_tree.specs.declared.syntax.BinOp.TheVariants as bin
use Rattle.rpy_tree.specs.declared.syntax.CmpOp.TheVariants as cmp
use Rattle.rpy_tree.specs.Value.{Value, Word, Nothing}
use Rattle.rpy_meaning.specs.declared.row.Covers.{Covers}
use Rattle.rpy_meaning.specs.declared.row.RowOp.{RowOp}
use Rattle.rpy_meaning.specs.declared.row.RowOp.TheVariants as row
use Rattle.rpy_meaning.specs.Tree.{Local, Constant, Apply, And, Or, Display, Comprehension, none, more, no_pairs, pair, Over, UpTo, FromTo, Where, Name, Attribute, Item, Parts, no_targets, more_targets, Pass, Break, Continue, Return, Do, Assign, Augment, If, While, For, Try, Finally, Block, done, line, no_clauses, clause, Function, Class, Program}
use Rattle.rpy_meaning.specs.Classes.{no_covers}
use Rattle.rpy_meaning.specs.Operations.{constant, constant_step}
use Rattle.flow_graph.specs.declared.graph.Link.{Link}
use Rattle.flow_graph.specs.declared.graph.Exit.{Exit}
use Rattle.flow_graph.specs.declared.graph.Exit.TheVariants as exit
use Rattle.flow_graph.specs.declared.graph.Op.{Op}
use Rattle.flow_graph.specs.declared.graph.Block as graph
use Rattle.flow_graph.specs.declared.graph.Graphs.{Graphs}
use Rattle.flow_stands.specs.Places.{first, first_and}
use Rattle.flow_stands.specs.Stands.{HasFunction}

abbrev class : Option ℕ → Class
class base = record { name = []; base = base; constants = []; methods = [] }

-- the builtin classes, and one more
abbrev classes : List Class
classes =
    class None ∷ class (Some 0) ∷ class (Some 1) ∷ class (Some 2) ∷ class (Some 2) ∷ class (Some 1) ∷ class (Some 5) ∷ class (Some 5) ∷ class (Some 1) ∷ class (Some 1)
    ∷ class (Some 1) ∷ class (Some 1) ∷ class (Some 11) ∷ class None ∷ []

abbrev link : ℕ → List ℕ → Link
link to args = record { to = to; args = args }

abbrev covering : Bool → Bool → Bool → Bool → Covers
covering index zero number attribute = record { index = index; zero = zero; number = number; attribute = attribute }

abbrev does : ℕ → RowOp → List ℕ → Covers → Op
does result o args covered = record { result = result; op = o; args = args; node = 0; value = false; covered = covered }

abbrev block : List ℕ → List Op → Exit → graph.Block
block inputs ops exit = record { inputs = inputs; ops = ops; exit = exit }

five : constant [] (const.Word (pos 5)) ≡ Word (pos 5)
five = ap (constant []) (sym (views.rolls-Word (pos 5))) ∙ Const.fold-roll-Const Value (constant_step []) (Const-F.Word (pos 5))

nothing : constant [] const.None ≡ Nothing
nothing = ap (constant []) (sym views.rolls-None) ∙ Const.fold-roll-Const Value (constant_step []) Const-F.None

body : Block
body = (line (Assign (more_targets (Name 2) no_targets) (Comprehension 1 (Apply (row.Binary bin.Mul (Some 1)) (more (Local 3) (more (Apply (row.Word (pos 2)) none) none))) (Name 3) (Over 2 (Local 0)) (Where (Apply (row.Compare cmp.Gt) (more (Local 3) (more (Apply (row.Word (pos 1)) none) none)))))) (line (For (Name 4) (Over 2 (Local 1)) (line (Augment (Item (Local 1) (Local 4)) row.AddTo (Apply (row.Word (pos 1)) none)) done)) (line (For (Parts (more_targets (Name 5) (more_targets (Name 6) no_targets))) (Over 2 (Local 0)) (line (If (And (Local 5) (Apply row.Not (more (Or (Local 6) (Local 5)) none))) (line Continue done) (line Break done)) done)) (line (Assign (more_targets (Name 7) no_targets) (Apply (row.New 13) (more (Constant (Word (pos 5))) none))) (line (Augment (Attribute (Local 7) (codes "x")) (row.Binary bin.Sub None) (Apply (row.Word (pos 1)) none)) (line (Assign (more_targets (Parts (more_targets (Attribute (Local 7) (codes "x")) (more_targets (Item (Local 2) (Apply (row.Word (pos 0)) none)) no_targets))) no_targets) (Local 0)) (line (Assign (more_targets (Name 8) no_targets) (Or (Local 5) (Local 6))) (line (Assign (more_targets (Name 9) no_targets) (Apply row.Not (more (And (Local 5) (Local 6)) none))) (line (Try (line (Assign (more_targets (Name 8) no_targets) (Apply (row.Index (Some (pos 7))) (more (Local 2) (more (Apply (row.Word (pos 7)) none) none)))) done) (clause (Some (6 ∷ 7 ∷ [])) (Some 10) (line (Assign (more_targets (Name 9) no_targets) (Constant Nothing)) done) (clause (Some (8 ∷ [])) None (line (Do (Apply row.DeleteIndex (more (Local 2) (more (Apply (row.Word (pos 0)) none) none)))) done) (clause None None (line Pass done) no_clauses))) (line (Assign (more_targets (Name 8) no_targets) (Apply (row.Word (pos 1)) none)) done)) (line (For (Name 3) (FromTo (Apply (row.Word (pos 2)) none) (Local 5) (pos 3)) (line Pass done)) (line (For (Name 3) (UpTo (Local 5)) (line (If (Apply (row.Compare cmp.Lt) (more (Local 3) (more (Local 6) none))) done (line (Do (Apply row.Raise (more (Apply (row.New 10) none) none))) done)) done)) (line (If (Apply (row.Compare cmp.IsNot) (more (Local 9) (more (Constant Nothing) none))) (line (Return (Local 8)) done) done) (line (Assign (more_targets (Name 11) (more_targets (Item (Local 1) (Apply (row.Word (pos 1)) none)) no_targets)) (Apply (row.Method (codes "get") None) (more (Local 7) none))) (line (Finally (line (Do (Apply row.Raise (more (Local 7) none))) done) (line (While (Apply (row.IsInstance 13) (more (Local 11) none)) (line (Assign (more_targets (Name 11) no_targets) (Constant Nothing)) done)) done)) (line (Return (Display 1 (pair (Apply (row.Word (pos 1)) none) (Local 11) (pair (Apply (row.Word (pos 2)) none) (Local 8) no_pairs)))) done)))))))))))))))

function : Function
function = record { defaults = None ∷ None ∷ []; takes_more = false; locals = 12; body = body }

program : Program
program = record { functions = function ∷ []; classes = classes; sites = []; entry = 0 }

graphs : Graphs
graphs = record {
  graphs = record {
    function = 0;
    blocks =
        block (0 ∷ 1 ∷ 2 ∷ 3 ∷ 4 ∷ 5 ∷ 6 ∷ 7 ∷ 8 ∷ 9 ∷ 10 ∷ 11 ∷ []) [] (exit.Goto (link 238 (0 ∷ 1 ∷ 2 ∷ 3 ∷ 4 ∷ 5 ∷ 6 ∷ 7 ∷ 8 ∷ 9 ∷ 10 ∷ 11 ∷ [])))
        ∷ block (12 ∷ []) [] (exit.Return 12)
        ∷ block (13 ∷ []) [] (exit.Raise 13)
        ∷ block ([]) [] (exit.Goto (link 3 ([])))
        ∷ block (14 ∷ 15 ∷ 16 ∷ 17 ∷ 18 ∷ 19 ∷ 20 ∷ 21 ∷ 22 ∷ 23 ∷ 24 ∷ 25 ∷ []) (does 26 row.None ([]) no_covers ∷ []) (exit.Goto (link 1 (26 ∷ [])))
        ∷ block (27 ∷ 28 ∷ 29 ∷ 30 ∷ 31 ∷ 32 ∷ 33 ∷ 34 ∷ 35 ∷ 36 ∷ 37 ∷ 38 ∷ 39 ∷ []) [] (exit.Goto (link 1 (39 ∷ [])))
        ∷ block (40 ∷ 41 ∷ 42 ∷ 43 ∷ 44 ∷ 45 ∷ 46 ∷ 47 ∷ 48 ∷ 49 ∷ 50 ∷ 51 ∷ 52 ∷ []) (does 53 row.Copy (52 ∷ []) no_covers ∷ []) (exit.OnRaise 53 ([]) (Some (link 2 (53 ∷ []))) (link 5 (40 ∷ 41 ∷ 42 ∷ 43 ∷ 44 ∷ 45 ∷ 46 ∷ 47 ∷ 48 ∷ 49 ∷ 50 ∷ 51 ∷ 53 ∷ [])))
        ∷ block (54 ∷ 55 ∷ 56 ∷ 57 ∷ 58 ∷ 59 ∷ 60 ∷ 61 ∷ 62 ∷ 63 ∷ 64 ∷ 65 ∷ 66 ∷ 67 ∷ 68 ∷ []) (does 69 row.StoreIndex (66 ∷ 67 ∷ 68 ∷ []) no_covers ∷ []) (exit.OnRaise 69 ([]) (Some (link 2 (69 ∷ []))) (link 6 (54 ∷ 55 ∷ 56 ∷ 57 ∷ 58 ∷ 59 ∷ 60 ∷ 61 ∷ 62 ∷ 63 ∷ 64 ∷ 65 ∷ 66 ∷ [])))
        ∷ block (70 ∷ 71 ∷ 72 ∷ 73 ∷ 74 ∷ 75 ∷ 76 ∷ 77 ∷ 78 ∷ 79 ∷ 80 ∷ 81 ∷ 82 ∷ 83 ∷ []) (does 84 row.Copy (78 ∷ []) no_covers ∷ []) (exit.OnRaise 84 ([]) (Some (link 2 (84 ∷ []))) (link 7 (70 ∷ 71 ∷ 72 ∷ 73 ∷ 74 ∷ 75 ∷ 76 ∷ 77 ∷ 78 ∷ 79 ∷ 80 ∷ 81 ∷ 82 ∷ 83 ∷ 84 ∷ [])))
        ∷ block (85 ∷ 86 ∷ 87 ∷ 88 ∷ 89 ∷ 90 ∷ 91 ∷ 92 ∷ 93 ∷ 94 ∷ 95 ∷ 96 ∷ 97 ∷ []) (does 98 (row.Word (pos 2)) ([]) no_covers ∷ []) (exit.OnRaise 98 ([]) (Some (link 2 (98 ∷ []))) (link 8 (85 ∷ 86 ∷ 87 ∷ 88 ∷ 89 ∷ 90 ∷ 91 ∷ 92 ∷ 93 ∷ 94 ∷ 95 ∷ 96 ∷ 97 ∷ 98 ∷ [])))
        ∷ block (99 ∷ 100 ∷ 101 ∷ 102 ∷ 103 ∷ 104 ∷ 105 ∷ 106 ∷ 107 ∷ 108 ∷ 109 ∷ 110 ∷ 111 ∷ 112 ∷ 113 ∷ []) (does 114 row.StoreIndex (111 ∷ 112 ∷ 113 ∷ []) no_covers ∷ []) (exit.OnRaise 114 ([]) (Some (link 2 (114 ∷ []))) (link 9 (99 ∷ 100 ∷ 101 ∷ 102 ∷ 103 ∷ 104 ∷ 105 ∷ 106 ∷ 107 ∷ 108 ∷ 109 ∷ 110 ∷ 111 ∷ [])))
        ∷ block (115 ∷ 116 ∷ 117 ∷ 118 ∷ 119 ∷ 120 ∷ 121 ∷ 122 ∷ 123 ∷ 124 ∷ 125 ∷ 126 ∷ 127 ∷ 128 ∷ []) (does 129 row.Copy (126 ∷ []) no_covers ∷ []) (exit.OnRaise 129 ([]) (Some (link 2 (129 ∷ []))) (link 10 (115 ∷ 116 ∷ 117 ∷ 118 ∷ 119 ∷ 120 ∷ 121 ∷ 122 ∷ 123 ∷ 124 ∷ 125 ∷ 126 ∷ 127 ∷ 128 ∷ 129 ∷ [])))
        ∷ block (130 ∷ 131 ∷ 132 ∷ 133 ∷ 134 ∷ 135 ∷ 136 ∷ 137 ∷ 138 ∷ 139 ∷ 140 ∷ 141 ∷ 142 ∷ []) (does 143 (row.Word (pos 1)) ([]) no_covers ∷ []) (exit.OnRaise 143 ([]) (Some (link 2 (143 ∷ []))) (link 11 (130 ∷ 131 ∷ 132 ∷ 133 ∷ 134 ∷ 135 ∷ 136 ∷ 137 ∷ 138 ∷ 139 ∷ 140 ∷ 141 ∷ 142 ∷ 143 ∷ [])))
        ∷ block (144 ∷ 145 ∷ 146 ∷ 147 ∷ 148 ∷ 149 ∷ 150 ∷ 151 ∷ 152 ∷ 153 ∷ 154 ∷ 155 ∷ []) (does 156 (row.Dict 1) ([]) no_covers ∷ []) (exit.OnRaise 156 ([]) (Some (link 2 (156 ∷ []))) (link 12 (144 ∷ 145 ∷ 146 ∷ 147 ∷ 148 ∷ 149 ∷ 150 ∷ 151 ∷ 152 ∷ 153 ∷ 154 ∷ 155 ∷ 156 ∷ [])))
        ∷ block (157 ∷ 158 ∷ 159 ∷ 160 ∷ 161 ∷ 162 ∷ 163 ∷ 164 ∷ 165 ∷ 166 ∷ 167 ∷ 168 ∷ []) [] (exit.Goto (link 22 (157 ∷ 158 ∷ 159 ∷ 160 ∷ 161 ∷ 162 ∷ 163 ∷ 164 ∷ 165 ∷ 166 ∷ 167 ∷ 168 ∷ [])))
        ∷ block (169 ∷ 170 ∷ 171 ∷ 172 ∷ 173 ∷ 174 ∷ 175 ∷ 176 ∷ 177 ∷ 178 ∷ 179 ∷ 180 ∷ 181 ∷ []) (does 182 row.Copy (181 ∷ []) no_covers ∷ []) (exit.OnRaise 182 ([]) (Some (link 2 (182 ∷ []))) (link 14 (169 ∷ 170 ∷ 171 ∷ 172 ∷ 173 ∷ 174 ∷ 175 ∷ 176 ∷ 177 ∷ 178 ∷ 179 ∷ 182 ∷ [])))
        ∷ block (183 ∷ 184 ∷ 185 ∷ 186 ∷ 187 ∷ 188 ∷ 189 ∷ 190 ∷ 191 ∷ 192 ∷ 193 ∷ 194 ∷ []) (does 195 (row.Constant const.None) ([]) no_covers ∷ []) (exit.OnRaise 195 ([]) (Some (link 2 (195 ∷ []))) (link 15 (183 ∷ 184 ∷ 185 ∷ 186 ∷ 187 ∷ 188 ∷ 189 ∷ 190 ∷ 191 ∷ 192 ∷ 193 ∷ 194 ∷ 195 ∷ [])))
        ∷ block (196 ∷ 197 ∷ 198 ∷ 199 ∷ 200 ∷ 201 ∷ 202 ∷ 203 ∷ 204 ∷ 205 ∷ 206 ∷ 207 ∷ []) (does 208 row.Turn ([]) no_covers ∷ []) (exit.OnRaise 208 ([]) (Some (link 2 (208 ∷ []))) (link 16 (196 ∷ 197 ∷ 198 ∷ 199 ∷ 200 ∷ 201 ∷ 202 ∷ 203 ∷ 204 ∷ 205 ∷ 206 ∷ 207 ∷ [])))
        ∷ block (209 ∷ 210 ∷ 211 ∷ 212 ∷ 213 ∷ 214 ∷ 215 ∷ 216 ∷ 217 ∷ 218 ∷ 219 ∷ 220 ∷ 221 ∷ []) (does 222 (row.Lower 13) (220 ∷ []) no_covers ∷ []) (exit.OnRaise 222 ([]) (Some (link 2 (222 ∷ []))) (link 17 (209 ∷ 210 ∷ 211 ∷ 212 ∷ 213 ∷ 214 ∷ 215 ∷ 216 ∷ 217 ∷ 218 ∷ 219 ∷ 222 ∷ [])))
        ∷ block (223 ∷ 224 ∷ 225 ∷ 226 ∷ 227 ∷ 228 ∷ 229 ∷ 230 ∷ 231 ∷ 232 ∷ 233 ∷ 234 ∷ 235 ∷ 236 ∷ []) [] (exit.If 236 (link 18 (223 ∷ 224 ∷ 225 ∷ 226 ∷ 227 ∷ 228 ∷ 229 ∷ 230 ∷ 231 ∷ 232 ∷ 233 ∷ 234 ∷ 235 ∷ [])) (link 13 (223 ∷ 224 ∷ 225 ∷ 226 ∷ 227 ∷ 228 ∷ 229 ∷ 230 ∷ 231 ∷ 232 ∷ 233 ∷ 234 ∷ [])))
        ∷ block (237 ∷ 238 ∷ 239 ∷ 240 ∷ 241 ∷ 242 ∷ 243 ∷ 244 ∷ 245 ∷ 246 ∷ 247 ∷ 248 ∷ 249 ∷ []) (does 250 row.Truth (249 ∷ []) no_covers ∷ []) (exit.OnRaise 250 ([]) (Some (link 2 (250 ∷ []))) (link 19 (237 ∷ 238 ∷ 239 ∷ 240 ∷ 241 ∷ 242 ∷ 243 ∷ 244 ∷ 245 ∷ 246 ∷ 247 ∷ 248 ∷ 249 ∷ 250 ∷ [])))
        ∷ block (251 ∷ 252 ∷ 253 ∷ 254 ∷ 255 ∷ 256 ∷ 257 ∷ 258 ∷ 259 ∷ 260 ∷ 261 ∷ 262 ∷ 263 ∷ []) (does 264 (row.IsInstance 13) (263 ∷ []) no_covers ∷ []) (exit.OnRaise 264 ([]) (Some (link 2 (264 ∷ []))) (link 20 (251 ∷ 252 ∷ 253 ∷ 254 ∷ 255 ∷ 256 ∷ 257 ∷ 258 ∷ 259 ∷ 260 ∷ 261 ∷ 262 ∷ 264 ∷ [])))
        ∷ block (265 ∷ 266 ∷ 267 ∷ 268 ∷ 269 ∷ 270 ∷ 271 ∷ 272 ∷ 273 ∷ 274 ∷ 275 ∷ 276 ∷ []) (does 277 row.Copy (276 ∷ []) no_covers ∷ []) (exit.OnRaise 277 ([]) (Some (link 2 (277 ∷ []))) (link 21 (265 ∷ 266 ∷ 267 ∷ 268 ∷ 269 ∷ 270 ∷ 271 ∷ 272 ∷ 273 ∷ 274 ∷ 275 ∷ 276 ∷ 277 ∷ [])))
        ∷ block (278 ∷ 279 ∷ 280 ∷ 281 ∷ 282 ∷ 283 ∷ 284 ∷ 285 ∷ 286 ∷ 287 ∷ 288 ∷ 289 ∷ []) [] (exit.Goto (link 4 (278 ∷ 279 ∷ 280 ∷ 281 ∷ 282 ∷ 283 ∷ 284 ∷ 285 ∷ 286 ∷ 287 ∷ 288 ∷ 289 ∷ [])))
        ∷ block (290 ∷ 291 ∷ 292 ∷ 293 ∷ 294 ∷ 295 ∷ 296 ∷ 297 ∷ 298 ∷ 299 ∷ 300 ∷ 301 ∷ []) [] (exit.Goto (link 32 (290 ∷ 291 ∷ 292 ∷ 293 ∷ 294 ∷ 295 ∷ 296 ∷ 297 ∷ 298 ∷ 299 ∷ 300 ∷ 301 ∷ [])))
        ∷ block (302 ∷ 303 ∷ 304 ∷ 305 ∷ 306 ∷ 307 ∷ 308 ∷ 309 ∷ 310 ∷ 311 ∷ 312 ∷ 313 ∷ 314 ∷ []) (does 315 row.Copy (314 ∷ []) no_covers ∷ []) (exit.OnRaise 315 ([]) (Some (link 2 (315 ∷ []))) (link 24 (302 ∷ 303 ∷ 304 ∷ 305 ∷ 306 ∷ 307 ∷ 308 ∷ 309 ∷ 310 ∷ 311 ∷ 312 ∷ 315 ∷ [])))
        ∷ block (316 ∷ 317 ∷ 318 ∷ 319 ∷ 320 ∷ 321 ∷ 322 ∷ 323 ∷ 324 ∷ 325 ∷ 326 ∷ 327 ∷ []) (does 328 (row.Constant const.None) ([]) no_covers ∷ []) (exit.OnRaise 328 ([]) (Some (link 2 (328 ∷ []))) (link 25 (316 ∷ 317 ∷ 318 ∷ 319 ∷ 320 ∷ 321 ∷ 322 ∷ 323 ∷ 324 ∷ 325 ∷ 326 ∷ 327 ∷ 328 ∷ [])))
        ∷ block (329 ∷ 330 ∷ 331 ∷ 332 ∷ 333 ∷ 334 ∷ 335 ∷ 336 ∷ 337 ∷ 338 ∷ 339 ∷ 340 ∷ []) (does 341 row.Turn ([]) no_covers ∷ []) (exit.OnRaise 341 ([]) (Some (link 2 (341 ∷ []))) (link 26 (329 ∷ 330 ∷ 331 ∷ 332 ∷ 333 ∷ 334 ∷ 335 ∷ 336 ∷ 337 ∷ 338 ∷ 339 ∷ 340 ∷ [])))
        ∷ block (342 ∷ 343 ∷ 344 ∷ 345 ∷ 346 ∷ 347 ∷ 348 ∷ 349 ∷ 350 ∷ 351 ∷ 352 ∷ 353 ∷ 354 ∷ []) (does 355 (row.Lower 13) (353 ∷ []) no_covers ∷ []) (exit.OnRaise 355 ([]) (Some (link 2 (355 ∷ []))) (link 27 (342 ∷ 343 ∷ 344 ∷ 345 ∷ 346 ∷ 347 ∷ 348 ∷ 349 ∷ 350 ∷ 351 ∷ 352 ∷ 355 ∷ [])))
        ∷ block (356 ∷ 357 ∷ 358 ∷ 359 ∷ 360 ∷ 361 ∷ 362 ∷ 363 ∷ 364 ∷ 365 ∷ 366 ∷ 367 ∷ 368 ∷ 369 ∷ []) [] (exit.If 369 (link 28 (356 ∷ 357 ∷ 358 ∷ 359 ∷ 360 ∷ 361 ∷ 362 ∷ 363 ∷ 364 ∷ 365 ∷ 366 ∷ 367 ∷ 368 ∷ [])) (link 23 (356 ∷ 357 ∷ 358 ∷ 359 ∷ 360 ∷ 361 ∷ 362 ∷ 363 ∷ 364 ∷ 365 ∷ 366 ∷ 367 ∷ [])))
        ∷ block (370 ∷ 371 ∷ 372 ∷ 373 ∷ 374 ∷ 375 ∷ 376 ∷ 377 ∷ 378 ∷ 379 ∷ 380 ∷ 381 ∷ 382 ∷ []) (does 383 row.Truth (382 ∷ []) no_covers ∷ []) (exit.OnRaise 383 ([]) (Some (link 2 (383 ∷ []))) (link 29 (370 ∷ 371 ∷ 372 ∷ 373 ∷ 374 ∷ 375 ∷ 376 ∷ 377 ∷ 378 ∷ 379 ∷ 380 ∷ 381 ∷ 382 ∷ 383 ∷ [])))
        ∷ block (384 ∷ 385 ∷ 386 ∷ 387 ∷ 388 ∷ 389 ∷ 390 ∷ 391 ∷ 392 ∷ 393 ∷ 394 ∷ 395 ∷ 396 ∷ []) (does 397 (row.IsInstance 13) (396 ∷ []) no_covers ∷ []) (exit.OnRaise 397 ([]) (Some (link 2 (397 ∷ []))) (link 30 (384 ∷ 385 ∷ 386 ∷ 387 ∷ 388 ∷ 389 ∷ 390 ∷ 391 ∷ 392 ∷ 393 ∷ 394 ∷ 395 ∷ 397 ∷ [])))
        ∷ block (398 ∷ 399 ∷ 400 ∷ 401 ∷ 402 ∷ 403 ∷ 404 ∷ 405 ∷ 406 ∷ 407 ∷ 408 ∷ 409 ∷ []) (does 410 row.Copy (409 ∷ []) no_covers ∷ []) (exit.OnRaise 410 ([]) (Some (link 2 (410 ∷ []))) (link 31 (398 ∷ 399 ∷ 400 ∷ 401 ∷ 402 ∷ 403 ∷ 404 ∷ 405 ∷ 406 ∷ 407 ∷ 408 ∷ 409 ∷ 410 ∷ [])))
        ∷ block (411 ∷ 412 ∷ 413 ∷ 414 ∷ 415 ∷ 416 ∷ 417 ∷ 418 ∷ 419 ∷ 420 ∷ 421 ∷ 422 ∷ []) [] (exit.Goto (link 4 (411 ∷ 412 ∷ 413 ∷ 414 ∷ 415 ∷ 416 ∷ 417 ∷ 418 ∷ 419 ∷ 420 ∷ 421 ∷ 422 ∷ [])))
        ∷ block (423 ∷ 424 ∷ 425 ∷ 426 ∷ 427 ∷ 428 ∷ 429 ∷ 430 ∷ 431 ∷ 432 ∷ 433 ∷ 434 ∷ []) [] (exit.Goto (link 42 (423 ∷ 424 ∷ 425 ∷ 426 ∷ 427 ∷ 428 ∷ 429 ∷ 430 ∷ 431 ∷ 432 ∷ 433 ∷ 434 ∷ [])))
        ∷ block (435 ∷ 436 ∷ 437 ∷ 438 ∷ 439 ∷ 440 ∷ 441 ∷ 442 ∷ 443 ∷ 444 ∷ 445 ∷ 446 ∷ 447 ∷ []) (does 448 row.Copy (447 ∷ []) no_covers ∷ []) (exit.OnRaise 448 ([]) (Some (link 2 (448 ∷ []))) (link 34 (435 ∷ 436 ∷ 437 ∷ 438 ∷ 439 ∷ 440 ∷ 441 ∷ 442 ∷ 443 ∷ 444 ∷ 445 ∷ 448 ∷ [])))
        ∷ block (449 ∷ 450 ∷ 451 ∷ 452 ∷ 453 ∷ 454 ∷ 455 ∷ 456 ∷ 457 ∷ 458 ∷ 459 ∷ 460 ∷ []) (does 461 (row.Constant const.None) ([]) no_covers ∷ []) (exit.OnRaise 461 ([]) (Some (link 2 (461 ∷ []))) (link 35 (449 ∷ 450 ∷ 451 ∷ 452 ∷ 453 ∷ 454 ∷ 455 ∷ 456 ∷ 457 ∷ 458 ∷ 459 ∷ 460 ∷ 461 ∷ [])))
        ∷ block (462 ∷ 463 ∷ 464 ∷ 465 ∷ 466 ∷ 467 ∷ 468 ∷ 469 ∷ 470 ∷ 471 ∷ 472 ∷ 473 ∷ []) (does 474 row.Turn ([]) no_covers ∷ []) (exit.OnRaise 474 ([]) (Some (link 2 (474 ∷ []))) (link 36 (462 ∷ 463 ∷ 464 ∷ 465 ∷ 466 ∷ 467 ∷ 468 ∷ 469 ∷ 470 ∷ 471 ∷ 472 ∷ 473 ∷ [])))
        ∷ block (475 ∷ 476 ∷ 477 ∷ 478 ∷ 479 ∷ 480 ∷ 481 ∷ 482 ∷ 483 ∷ 484 ∷ 485 ∷ 486 ∷ 487 ∷ []) (does 488 (row.Lower 13) (486 ∷ []) no_covers ∷ []) (exit.OnRaise 488 ([]) (Some (link 2 (488 ∷ []))) (link 37 (475 ∷ 476 ∷ 477 ∷ 478 ∷ 479 ∷ 480 ∷ 481 ∷ 482 ∷ 483 ∷ 484 ∷ 485 ∷ 488 ∷ [])))
        ∷ block (489 ∷ 490 ∷ 491 ∷ 492 ∷ 493 ∷ 494 ∷ 495 ∷ 496 ∷ 497 ∷ 498 ∷ 499 ∷ 500 ∷ 501 ∷ 502 ∷ []) [] (exit.If 502 (link 38 (489 ∷ 490 ∷ 491 ∷ 492 ∷ 493 ∷ 494 ∷ 495 ∷ 496 ∷ 497 ∷ 498 ∷ 499 ∷ 500 ∷ 501 ∷ [])) (link 33 (489 ∷ 490 ∷ 491 ∷ 492 ∷ 493 ∷ 494 ∷ 495 ∷ 496 ∷ 497 ∷ 498 ∷ 499 ∷ 500 ∷ [])))
        ∷ block (503 ∷ 504 ∷ 505 ∷ 506 ∷ 507 ∷ 508 ∷ 509 ∷ 510 ∷ 511 ∷ 512 ∷ 513 ∷ 514 ∷ 515 ∷ []) (does 516 row.Truth (515 ∷ []) no_covers ∷ []) (exit.OnRaise 516 ([]) (Some (link 2 (516 ∷ []))) (link 39 (503 ∷ 504 ∷ 505 ∷ 506 ∷ 507 ∷ 508 ∷ 509 ∷ 510 ∷ 511 ∷ 512 ∷ 513 ∷ 514 ∷ 515 ∷ 516 ∷ [])))
        ∷ block (517 ∷ 518 ∷ 519 ∷ 520 ∷ 521 ∷ 522 ∷ 523 ∷ 524 ∷ 525 ∷ 526 ∷ 527 ∷ 528 ∷ 529 ∷ []) (does 530 (row.IsInstance 13) (529 ∷ []) no_covers ∷ []) (exit.OnRaise 530 ([]) (Some (link 2 (530 ∷ []))) (link 40 (517 ∷ 518 ∷ 519 ∷ 520 ∷ 521 ∷ 522 ∷ 523 ∷ 524 ∷ 525 ∷ 526 ∷ 527 ∷ 528 ∷ 530 ∷ [])))
        ∷ block (531 ∷ 532 ∷ 533 ∷ 534 ∷ 535 ∷ 536 ∷ 537 ∷ 538 ∷ 539 ∷ 540 ∷ 541 ∷ 542 ∷ []) (does 543 row.Copy (542 ∷ []) no_covers ∷ []) (exit.OnRaise 543 ([]) (Some (link 2 (543 ∷ []))) (link 41 (531 ∷ 532 ∷ 533 ∷ 534 ∷ 535 ∷ 536 ∷ 537 ∷ 538 ∷ 539 ∷ 540 ∷ 541 ∷ 542 ∷ 543 ∷ [])))
        ∷ block (544 ∷ 545 ∷ 546 ∷ 547 ∷ 548 ∷ 549 ∷ 550 ∷ 551 ∷ 552 ∷ 553 ∷ 554 ∷ 555 ∷ 556 ∷ []) [] (exit.Goto (link 1 (556 ∷ [])))
        ∷ block (557 ∷ 558 ∷ 559 ∷ 560 ∷ 561 ∷ 562 ∷ 563 ∷ 564 ∷ 565 ∷ 566 ∷ 567 ∷ 568 ∷ 569 ∷ []) [] (exit.Goto (link 52 (557 ∷ 558 ∷ 559 ∷ 560 ∷ 561 ∷ 562 ∷ 563 ∷ 564 ∷ 565 ∷ 566 ∷ 567 ∷ 568 ∷ 569 ∷ [])))
        ∷ block (570 ∷ 571 ∷ 572 ∷ 573 ∷ 574 ∷ 575 ∷ 576 ∷ 577 ∷ 578 ∷ 579 ∷ 580 ∷ 581 ∷ 582 ∷ 583 ∷ []) (does 584 row.Copy (583 ∷ []) no_covers ∷ []) (exit.OnRaise 584 ([]) (Some (link 2 (584 ∷ []))) (link 44 (570 ∷ 571 ∷ 572 ∷ 573 ∷ 574 ∷ 575 ∷ 576 ∷ 577 ∷ 578 ∷ 579 ∷ 580 ∷ 584 ∷ 582 ∷ [])))
        ∷ block (585 ∷ 586 ∷ 587 ∷ 588 ∷ 589 ∷ 590 ∷ 591 ∷ 592 ∷ 593 ∷ 594 ∷ 595 ∷ 596 ∷ 597 ∷ []) (does 598 (row.Constant const.None) ([]) no_covers ∷ []) (exit.OnRaise 598 ([]) (Some (link 2 (598 ∷ []))) (link 45 (585 ∷ 586 ∷ 587 ∷ 588 ∷ 589 ∷ 590 ∷ 591 ∷ 592 ∷ 593 ∷ 594 ∷ 595 ∷ 596 ∷ 597 ∷ 598 ∷ [])))
        ∷ block (599 ∷ 600 ∷ 601 ∷ 602 ∷ 603 ∷ 604 ∷ 605 ∷ 606 ∷ 607 ∷ 608 ∷ 609 ∷ 610 ∷ 611 ∷ []) (does 612 row.Turn ([]) no_covers ∷ []) (exit.OnRaise 612 ([]) (Some (link 2 (612 ∷ []))) (link 46 (599 ∷ 600 ∷ 601 ∷ 602 ∷ 603 ∷ 604 ∷ 605 ∷ 606 ∷ 607 ∷ 608 ∷ 609 ∷ 610 ∷ 611 ∷ [])))
        ∷ block (613 ∷ 614 ∷ 615 ∷ 616 ∷ 617 ∷ 618 ∷ 619 ∷ 620 ∷ 621 ∷ 622 ∷ 623 ∷ 624 ∷ 625 ∷ 626 ∷ []) (does 627 (row.Lower 13) (624 ∷ []) no_covers ∷ []) (exit.OnRaise 627 ([]) (Some (link 2 (627 ∷ []))) (link 47 (613 ∷ 614 ∷ 615 ∷ 616 ∷ 617 ∷ 618 ∷ 619 ∷ 620 ∷ 621 ∷ 622 ∷ 623 ∷ 627 ∷ 625 ∷ [])))
        ∷ block (628 ∷ 629 ∷ 630 ∷ 631 ∷ 632 ∷ 633 ∷ 634 ∷ 635 ∷ 636 ∷ 637 ∷ 638 ∷ 639 ∷ 640 ∷ 641 ∷ 642 ∷ []) [] (exit.If 642 (link 48 (628 ∷ 629 ∷ 630 ∷ 631 ∷ 632 ∷ 633 ∷ 634 ∷ 635 ∷ 636 ∷ 637 ∷ 638 ∷ 639 ∷ 640 ∷ 641 ∷ [])) (link 43 (628 ∷ 629 ∷ 630 ∷ 631 ∷ 632 ∷ 633 ∷ 634 ∷ 635 ∷ 636 ∷ 637 ∷ 638 ∷ 639 ∷ 640 ∷ [])))
        ∷ block (643 ∷ 644 ∷ 645 ∷ 646 ∷ 647 ∷ 648 ∷ 649 ∷ 650 ∷ 651 ∷ 652 ∷ 653 ∷ 654 ∷ 655 ∷ 656 ∷ []) (does 657 row.Truth (656 ∷ []) no_covers ∷ []) (exit.OnRaise 657 ([]) (Some (link 2 (657 ∷ []))) (link 49 (643 ∷ 644 ∷ 645 ∷ 646 ∷ 647 ∷ 648 ∷ 649 ∷ 650 ∷ 651 ∷ 652 ∷ 653 ∷ 654 ∷ 655 ∷ 656 ∷ 657 ∷ [])))
        ∷ block (658 ∷ 659 ∷ 660 ∷ 661 ∷ 662 ∷ 663 ∷ 664 ∷ 665 ∷ 666 ∷ 667 ∷ 668 ∷ 669 ∷ 670 ∷ 671 ∷ []) (does 672 (row.IsInstance 13) (671 ∷ []) no_covers ∷ []) (exit.OnRaise 672 ([]) (Some (link 2 (672 ∷ []))) (link 50 (658 ∷ 659 ∷ 660 ∷ 661 ∷ 662 ∷ 663 ∷ 664 ∷ 665 ∷ 666 ∷ 667 ∷ 668 ∷ 669 ∷ 670 ∷ 672 ∷ [])))
        ∷ block (673 ∷ 674 ∷ 675 ∷ 676 ∷ 677 ∷ 678 ∷ 679 ∷ 680 ∷ 681 ∷ 682 ∷ 683 ∷ 684 ∷ 685 ∷ []) (does 686 row.Copy (684 ∷ []) no_covers ∷ []) (exit.OnRaise 686 ([]) (Some (link 2 (686 ∷ []))) (link 51 (673 ∷ 674 ∷ 675 ∷ 676 ∷ 677 ∷ 678 ∷ 679 ∷ 680 ∷ 681 ∷ 682 ∷ 683 ∷ 684 ∷ 685 ∷ 686 ∷ [])))
        ∷ block (687 ∷ 688 ∷ 689 ∷ 690 ∷ 691 ∷ 692 ∷ 693 ∷ 694 ∷ 695 ∷ 696 ∷ 697 ∷ 698 ∷ 699 ∷ []) (does 700 row.Raise (699 ∷ []) no_covers ∷ []) (exit.OnRaise 700 ([]) (Some (link 2 (700 ∷ []))) (link 3 ([])))
        ∷ block (701 ∷ 702 ∷ 703 ∷ 704 ∷ 705 ∷ 706 ∷ 707 ∷ 708 ∷ 709 ∷ 710 ∷ 711 ∷ 712 ∷ 713 ∷ []) [] (exit.Goto (link 62 (701 ∷ 702 ∷ 703 ∷ 704 ∷ 705 ∷ 706 ∷ 707 ∷ 708 ∷ 709 ∷ 710 ∷ 711 ∷ 712 ∷ 713 ∷ [])))
        ∷ block (714 ∷ 715 ∷ 716 ∷ 717 ∷ 718 ∷ 719 ∷ 720 ∷ 721 ∷ 722 ∷ 723 ∷ 724 ∷ 725 ∷ 726 ∷ 727 ∷ []) (does 728 row.Copy (727 ∷ []) no_covers ∷ []) (exit.OnRaise 728 ([]) (Some (link 2 (728 ∷ []))) (link 54 (714 ∷ 715 ∷ 716 ∷ 717 ∷ 718 ∷ 719 ∷ 720 ∷ 721 ∷ 722 ∷ 723 ∷ 724 ∷ 728 ∷ 726 ∷ [])))
        ∷ block (729 ∷ 730 ∷ 731 ∷ 732 ∷ 733 ∷ 734 ∷ 735 ∷ 736 ∷ 737 ∷ 738 ∷ 739 ∷ 740 ∷ 741 ∷ []) (does 742 (row.Constant const.None) ([]) no_covers ∷ []) (exit.OnRaise 742 ([]) (Some (link 2 (742 ∷ []))) (link 55 (729 ∷ 730 ∷ 731 ∷ 732 ∷ 733 ∷ 734 ∷ 735 ∷ 736 ∷ 737 ∷ 738 ∷ 739 ∷ 740 ∷ 741 ∷ 742 ∷ [])))
        ∷ block (743 ∷ 744 ∷ 745 ∷ 746 ∷ 747 ∷ 748 ∷ 749 ∷ 750 ∷ 751 ∷ 752 ∷ 753 ∷ 754 ∷ 755 ∷ []) (does 756 row.Turn ([]) no_covers ∷ []) (exit.OnRaise 756 ([]) (Some (link 2 (756 ∷ []))) (link 56 (743 ∷ 744 ∷ 745 ∷ 746 ∷ 747 ∷ 748 ∷ 749 ∷ 750 ∷ 751 ∷ 752 ∷ 753 ∷ 754 ∷ 755 ∷ [])))
        ∷ block (757 ∷ 758 ∷ 759 ∷ 760 ∷ 761 ∷ 762 ∷ 763 ∷ 764 ∷ 765 ∷ 766 ∷ 767 ∷ 768 ∷ 769 ∷ 770 ∷ []) (does 771 (row.Lower 13) (768 ∷ []) no_covers ∷ []) (exit.OnRaise 771 ([]) (Some (link 2 (771 ∷ []))) (link 57 (757 ∷ 758 ∷ 759 ∷ 760 ∷ 761 ∷ 762 ∷ 763 ∷ 764 ∷ 765 ∷ 766 ∷ 767 ∷ 771 ∷ 769 ∷ [])))
        ∷ block (772 ∷ 773 ∷ 774 ∷ 775 ∷ 776 ∷ 777 ∷ 778 ∷ 779 ∷ 780 ∷ 781 ∷ 782 ∷ 783 ∷ 784 ∷ 785 ∷ 786 ∷ []) [] (exit.If 786 (link 58 (772 ∷ 773 ∷ 774 ∷ 775 ∷ 776 ∷ 777 ∷ 778 ∷ 779 ∷ 780 ∷ 781 ∷ 782 ∷ 783 ∷ 784 ∷ 785 ∷ [])) (link 53 (772 ∷ 773 ∷ 774 ∷ 775 ∷ 776 ∷ 777 ∷ 778 ∷ 779 ∷ 780 ∷ 781 ∷ 782 ∷ 783 ∷ 784 ∷ [])))
        ∷ block (787 ∷ 788 ∷ 789 ∷ 790 ∷ 791 ∷ 792 ∷ 793 ∷ 794 ∷ 795 ∷ 796 ∷ 797 ∷ 798 ∷ 799 ∷ 800 ∷ []) (does 801 row.Truth (800 ∷ []) no_covers ∷ []) (exit.OnRaise 801 ([]) (Some (link 2 (801 ∷ []))) (link 59 (787 ∷ 788 ∷ 789 ∷ 790 ∷ 791 ∷ 792 ∷ 793 ∷ 794 ∷ 795 ∷ 796 ∷ 797 ∷ 798 ∷ 799 ∷ 800 ∷ 801 ∷ [])))
        ∷ block (802 ∷ 803 ∷ 804 ∷ 805 ∷ 806 ∷ 807 ∷ 808 ∷ 809 ∷ 810 ∷ 811 ∷ 812 ∷ 813 ∷ 814 ∷ 815 ∷ []) (does 816 (row.IsInstance 13) (815 ∷ []) no_covers ∷ []) (exit.OnRaise 816 ([]) (Some (link 2 (816 ∷ []))) (link 60 (802 ∷ 803 ∷ 804 ∷ 805 ∷ 806 ∷ 807 ∷ 808 ∷ 809 ∷ 810 ∷ 811 ∷ 812 ∷ 813 ∷ 814 ∷ 816 ∷ [])))
        ∷ block (817 ∷ 818 ∷ 819 ∷ 820 ∷ 821 ∷ 822 ∷ 823 ∷ 824 ∷ 825 ∷ 826 ∷ 827 ∷ 828 ∷ 829 ∷ []) (does 830 row.Copy (828 ∷ []) no_covers ∷ []) (exit.OnRaise 830 ([]) (Some (link 2 (830 ∷ []))) (link 61 (817 ∷ 818 ∷ 819 ∷ 820 ∷ 821 ∷ 822 ∷ 823 ∷ 824 ∷ 825 ∷ 826 ∷ 827 ∷ 828 ∷ 829 ∷ 830 ∷ [])))
        ∷ block (831 ∷ 832 ∷ 833 ∷ 834 ∷ 835 ∷ 836 ∷ 837 ∷ 838 ∷ 839 ∷ 840 ∷ 841 ∷ 842 ∷ []) (does 843 row.None ([]) no_covers ∷ []) (exit.OnRaise 843 ([]) (Some (link 54 (831 ∷ 832 ∷ 833 ∷ 834 ∷ 835 ∷ 836 ∷ 837 ∷ 838 ∷ 839 ∷ 840 ∷ 841 ∷ 842 ∷ 843 ∷ []))) (link 14 (831 ∷ 832 ∷ 833 ∷ 834 ∷ 835 ∷ 836 ∷ 837 ∷ 838 ∷ 839 ∷ 840 ∷ 841 ∷ 842 ∷ [])))
        ∷ block (844 ∷ 845 ∷ 846 ∷ 847 ∷ 848 ∷ 849 ∷ 850 ∷ 851 ∷ 852 ∷ 853 ∷ 854 ∷ 855 ∷ 856 ∷ []) [] (exit.Goto (link 63 (844 ∷ 845 ∷ 846 ∷ 847 ∷ 848 ∷ 849 ∷ 850 ∷ 851 ∷ 852 ∷ 853 ∷ 854 ∷ 855 ∷ [])))
        ∷ block (857 ∷ 858 ∷ 859 ∷ 860 ∷ 861 ∷ 862 ∷ 863 ∷ 864 ∷ 865 ∷ 866 ∷ 867 ∷ 868 ∷ 869 ∷ []) (does 870 row.Raise (869 ∷ []) no_covers ∷ []) (exit.OnRaise 870 ([]) (Some (link 54 (857 ∷ 858 ∷ 859 ∷ 860 ∷ 861 ∷ 862 ∷ 863 ∷ 864 ∷ 865 ∷ 866 ∷ 867 ∷ 868 ∷ 870 ∷ []))) (link 3 ([])))
        ∷ block (871 ∷ 872 ∷ 873 ∷ 874 ∷ 875 ∷ 876 ∷ 877 ∷ 878 ∷ 879 ∷ 880 ∷ 881 ∷ 882 ∷ []) (does 883 row.Copy (878 ∷ []) no_covers ∷ []) (exit.OnRaise 883 ([]) (Some (link 54 (871 ∷ 872 ∷ 873 ∷ 874 ∷ 875 ∷ 876 ∷ 877 ∷ 878 ∷ 879 ∷ 880 ∷ 881 ∷ 882 ∷ 883 ∷ []))) (link 65 (871 ∷ 872 ∷ 873 ∷ 874 ∷ 875 ∷ 876 ∷ 877 ∷ 878 ∷ 879 ∷ 880 ∷ 881 ∷ 882 ∷ 883 ∷ [])))
        ∷ block (884 ∷ 885 ∷ 886 ∷ 887 ∷ 888 ∷ 889 ∷ 890 ∷ 891 ∷ 892 ∷ 893 ∷ 894 ∷ 895 ∷ []) (does 896 row.None ([]) no_covers ∷ []) (exit.OnRaise 896 ([]) (Some (link 54 (884 ∷ 885 ∷ 886 ∷ 887 ∷ 888 ∷ 889 ∷ 890 ∷ 891 ∷ 892 ∷ 893 ∷ 894 ∷ 895 ∷ 896 ∷ []))) (link 66 (884 ∷ 885 ∷ 886 ∷ 887 ∷ 888 ∷ 889 ∷ 890 ∷ 891 ∷ 892 ∷ 893 ∷ 894 ∷ 895 ∷ [])))
        ∷ block (897 ∷ 898 ∷ 899 ∷ 900 ∷ 901 ∷ 902 ∷ 903 ∷ 904 ∷ 905 ∷ 906 ∷ 907 ∷ 908 ∷ 909 ∷ 910 ∷ 911 ∷ []) (does 912 row.StoreIndex (910 ∷ 911 ∷ 909 ∷ []) no_covers ∷ []) (exit.OnRaise 912 ([]) (Some (link 2 (912 ∷ []))) (link 67 (897 ∷ 898 ∷ 899 ∷ 900 ∷ 901 ∷ 902 ∷ 903 ∷ 904 ∷ 905 ∷ 906 ∷ 907 ∷ 908 ∷ [])))
        ∷ block (913 ∷ 914 ∷ 915 ∷ 916 ∷ 917 ∷ 918 ∷ 919 ∷ 920 ∷ 921 ∷ 922 ∷ 923 ∷ 924 ∷ 925 ∷ 926 ∷ []) (does 927 (row.Word (pos 1)) ([]) no_covers ∷ []) (exit.OnRaise 927 ([]) (Some (link 2 (927 ∷ []))) (link 68 (913 ∷ 914 ∷ 915 ∷ 916 ∷ 917 ∷ 918 ∷ 919 ∷ 920 ∷ 921 ∷ 922 ∷ 923 ∷ 924 ∷ 925 ∷ 926 ∷ 927 ∷ [])))
        ∷ block (928 ∷ 929 ∷ 930 ∷ 931 ∷ 932 ∷ 933 ∷ 934 ∷ 935 ∷ 936 ∷ 937 ∷ 938 ∷ 939 ∷ 940 ∷ []) (does 941 row.Copy (929 ∷ []) no_covers ∷ []) (exit.OnRaise 941 ([]) (Some (link 2 (941 ∷ []))) (link 69 (928 ∷ 929 ∷ 930 ∷ 931 ∷ 932 ∷ 933 ∷ 934 ∷ 935 ∷ 936 ∷ 937 ∷ 938 ∷ 939 ∷ 940 ∷ 941 ∷ [])))
        ∷ block (942 ∷ 943 ∷ 944 ∷ 945 ∷ 946 ∷ 947 ∷ 948 ∷ 949 ∷ 950 ∷ 951 ∷ 952 ∷ 953 ∷ 954 ∷ []) (does 955 row.Copy (954 ∷ []) no_covers ∷ []) (exit.OnRaise 955 ([]) (Some (link 2 (955 ∷ []))) (link 70 (942 ∷ 943 ∷ 944 ∷ 945 ∷ 946 ∷ 947 ∷ 948 ∷ 949 ∷ 950 ∷ 951 ∷ 952 ∷ 955 ∷ 954 ∷ [])))
        ∷ block (956 ∷ 957 ∷ 958 ∷ 959 ∷ 960 ∷ 961 ∷ 962 ∷ 963 ∷ 964 ∷ 965 ∷ 966 ∷ 967 ∷ 968 ∷ []) (does 969 (row.Method (codes "get") None) (968 ∷ []) no_covers ∷ []) (exit.OnRaise 969 ([]) (Some (link 2 (969 ∷ []))) (link 71 (956 ∷ 957 ∷ 958 ∷ 959 ∷ 960 ∷ 961 ∷ 962 ∷ 963 ∷ 964 ∷ 965 ∷ 966 ∷ 967 ∷ 969 ∷ [])))
        ∷ block (970 ∷ 971 ∷ 972 ∷ 973 ∷ 974 ∷ 975 ∷ 976 ∷ 977 ∷ 978 ∷ 979 ∷ 980 ∷ 981 ∷ []) (does 982 row.Copy (977 ∷ []) no_covers ∷ []) (exit.OnRaise 982 ([]) (Some (link 2 (982 ∷ []))) (link 72 (970 ∷ 971 ∷ 972 ∷ 973 ∷ 974 ∷ 975 ∷ 976 ∷ 977 ∷ 978 ∷ 979 ∷ 980 ∷ 981 ∷ 982 ∷ [])))
        ∷ block (983 ∷ 984 ∷ 985 ∷ 986 ∷ 987 ∷ 988 ∷ 989 ∷ 990 ∷ 991 ∷ 992 ∷ 993 ∷ 994 ∷ 995 ∷ []) [] (exit.Goto (link 1 (995 ∷ [])))
        ∷ block (996 ∷ 997 ∷ 998 ∷ 999 ∷ 1000 ∷ 1001 ∷ 1002 ∷ 1003 ∷ 1004 ∷ 1005 ∷ 1006 ∷ 1007 ∷ []) (does 1008 row.Copy (1004 ∷ []) no_covers ∷ []) (exit.OnRaise 1008 ([]) (Some (link 2 (1008 ∷ []))) (link 74 (996 ∷ 997 ∷ 998 ∷ 999 ∷ 1000 ∷ 1001 ∷ 1002 ∷ 1003 ∷ 1004 ∷ 1005 ∷ 1006 ∷ 1007 ∷ 1008 ∷ [])))
        ∷ block (1009 ∷ 1010 ∷ 1011 ∷ 1012 ∷ 1013 ∷ 1014 ∷ 1015 ∷ 1016 ∷ 1017 ∷ 1018 ∷ 1019 ∷ 1020 ∷ 1021 ∷ []) (does 1022 row.DropNone (1018 ∷ []) no_covers ∷ []) (exit.OnRaise 1022 ([]) (Some (link 2 (1022 ∷ []))) (link 75 (1009 ∷ 1010 ∷ 1011 ∷ 1012 ∷ 1013 ∷ 1014 ∷ 1015 ∷ 1016 ∷ 1017 ∷ 1022 ∷ 1019 ∷ 1020 ∷ [])))
        ∷ block (1023 ∷ 1024 ∷ 1025 ∷ 1026 ∷ 1027 ∷ 1028 ∷ 1029 ∷ 1030 ∷ 1031 ∷ 1032 ∷ 1033 ∷ 1034 ∷ 1035 ∷ []) (does 1036 row.OnlyNone (1032 ∷ []) no_covers ∷ []) (exit.OnRaise 1036 ([]) (Some (link 2 (1036 ∷ []))) (link 73 (1023 ∷ 1024 ∷ 1025 ∷ 1026 ∷ 1027 ∷ 1028 ∷ 1029 ∷ 1030 ∷ 1031 ∷ 1036 ∷ 1033 ∷ 1034 ∷ [])))
        ∷ block (1037 ∷ 1038 ∷ 1039 ∷ 1040 ∷ 1041 ∷ 1042 ∷ 1043 ∷ 1044 ∷ 1045 ∷ 1046 ∷ 1047 ∷ 1048 ∷ 1049 ∷ 1050 ∷ []) [] (exit.If 1050 (link 76 (1037 ∷ 1038 ∷ 1039 ∷ 1040 ∷ 1041 ∷ 1042 ∷ 1043 ∷ 1044 ∷ 1045 ∷ 1046 ∷ 1047 ∷ 1048 ∷ 1049 ∷ [])) (link 77 (1037 ∷ 1038 ∷ 1039 ∷ 1040 ∷ 1041 ∷ 1042 ∷ 1043 ∷ 1044 ∷ 1045 ∷ 1046 ∷ 1047 ∷ 1048 ∷ 1049 ∷ [])))
        ∷ block (1051 ∷ 1052 ∷ 1053 ∷ 1054 ∷ 1055 ∷ 1056 ∷ 1057 ∷ 1058 ∷ 1059 ∷ 1060 ∷ 1061 ∷ 1062 ∷ 1063 ∷ []) (does 1064 row.Truth (1063 ∷ []) no_covers ∷ []) (exit.OnRaise 1064 ([]) (Some (link 2 (1064 ∷ []))) (link 78 (1051 ∷ 1052 ∷ 1053 ∷ 1054 ∷ 1055 ∷ 1056 ∷ 1057 ∷ 1058 ∷ 1059 ∷ 1060 ∷ 1061 ∷ 1062 ∷ 1063 ∷ 1064 ∷ [])))
        ∷ block (1065 ∷ 1066 ∷ 1067 ∷ 1068 ∷ 1069 ∷ 1070 ∷ 1071 ∷ 1072 ∷ 1073 ∷ 1074 ∷ 1075 ∷ 1076 ∷ 1077 ∷ 1078 ∷ []) (does 1079 (row.Compare cmp.IsNot) (1077 ∷ 1078 ∷ []) no_covers ∷ []) (exit.OnRaise 1079 ([]) (Some (link 2 (1079 ∷ []))) (link 79 (1065 ∷ 1066 ∷ 1067 ∷ 1068 ∷ 1069 ∷ 1070 ∷ 1071 ∷ 1072 ∷ 1073 ∷ 1074 ∷ 1075 ∷ 1076 ∷ 1079 ∷ [])))
        ∷ block (1080 ∷ 1081 ∷ 1082 ∷ 1083 ∷ 1084 ∷ 1085 ∷ 1086 ∷ 1087 ∷ 1088 ∷ 1089 ∷ 1090 ∷ 1091 ∷ 1092 ∷ []) (does 1093 (row.Constant const.None) ([]) no_covers ∷ []) (exit.OnRaise 1093 ([]) (Some (link 2 (1093 ∷ []))) (link 80 (1080 ∷ 1081 ∷ 1082 ∷ 1083 ∷ 1084 ∷ 1085 ∷ 1086 ∷ 1087 ∷ 1088 ∷ 1089 ∷ 1090 ∷ 1091 ∷ 1092 ∷ 1093 ∷ [])))
        ∷ block (1094 ∷ 1095 ∷ 1096 ∷ 1097 ∷ 1098 ∷ 1099 ∷ 1100 ∷ 1101 ∷ 1102 ∷ 1103 ∷ 1104 ∷ 1105 ∷ []) (does 1106 row.Copy (1103 ∷ []) no_covers ∷ []) (exit.OnRaise 1106 ([]) (Some (link 2 (1106 ∷ []))) (link 81 (1094 ∷ 1095 ∷ 1096 ∷ 1097 ∷ 1098 ∷ 1099 ∷ 1100 ∷ 1101 ∷ 1102 ∷ 1103 ∷ 1104 ∷ 1105 ∷ 1106 ∷ [])))
        ∷ block (1107 ∷ 1108 ∷ 1109 ∷ 1110 ∷ 1111 ∷ 1112 ∷ 1113 ∷ 1114 ∷ 1115 ∷ 1116 ∷ 1117 ∷ 1118 ∷ 1119 ∷ 1120 ∷ []) [] (exit.Goto (link 99 (1107 ∷ 1108 ∷ 1109 ∷ 1110 ∷ 1111 ∷ 1112 ∷ 1113 ∷ 1114 ∷ 1115 ∷ 1116 ∷ 1117 ∷ 1118 ∷ 1119 ∷ 1120 ∷ [])))
        ∷ block (1121 ∷ 1122 ∷ 1123 ∷ 1124 ∷ 1125 ∷ 1126 ∷ 1127 ∷ 1128 ∷ 1129 ∷ 1130 ∷ 1131 ∷ 1132 ∷ 1133 ∷ 1134 ∷ []) (does 1135 (row.Advance (Some (pos 1))) (1133 ∷ 1134 ∷ []) no_covers ∷ []) (exit.OnRaise 1135 ([]) (Some (link 2 (1135 ∷ []))) (link 83 (1121 ∷ 1122 ∷ 1123 ∷ 1124 ∷ 1125 ∷ 1126 ∷ 1127 ∷ 1128 ∷ 1129 ∷ 1130 ∷ 1131 ∷ 1132 ∷ 1133 ∷ 1135 ∷ [])))
        ∷ block (1136 ∷ 1137 ∷ 1138 ∷ 1139 ∷ 1140 ∷ 1141 ∷ 1142 ∷ 1143 ∷ 1144 ∷ 1145 ∷ 1146 ∷ 1147 ∷ 1148 ∷ 1149 ∷ 1150 ∷ []) [] (exit.Goto (link 84 (1136 ∷ 1137 ∷ 1138 ∷ 1139 ∷ 1140 ∷ 1141 ∷ 1142 ∷ 1143 ∷ 1144 ∷ 1145 ∷ 1146 ∷ 1147 ∷ 1148 ∷ 1149 ∷ [])))
        ∷ block (1151 ∷ 1152 ∷ 1153 ∷ 1154 ∷ 1155 ∷ 1156 ∷ 1157 ∷ 1158 ∷ 1159 ∷ 1160 ∷ 1161 ∷ 1162 ∷ 1163 ∷ 1164 ∷ 1165 ∷ []) (does 1166 row.Raise (1165 ∷ []) no_covers ∷ []) (exit.OnRaise 1166 ([]) (Some (link 2 (1166 ∷ []))) (link 3 ([])))
        ∷ block (1167 ∷ 1168 ∷ 1169 ∷ 1170 ∷ 1171 ∷ 1172 ∷ 1173 ∷ 1174 ∷ 1175 ∷ 1176 ∷ 1177 ∷ 1178 ∷ 1179 ∷ 1180 ∷ []) (does 1181 (row.New 10) ([]) no_covers ∷ []) (exit.OnRaise 1181 ([]) (Some (link 2 (1181 ∷ []))) (link 86 (1167 ∷ 1168 ∷ 1169 ∷ 1170 ∷ 1171 ∷ 1172 ∷ 1173 ∷ 1174 ∷ 1175 ∷ 1176 ∷ 1177 ∷ 1178 ∷ 1179 ∷ 1180 ∷ 1181 ∷ [])))
        ∷ block (1182 ∷ 1183 ∷ 1184 ∷ 1185 ∷ 1186 ∷ 1187 ∷ 1188 ∷ 1189 ∷ 1190 ∷ 1191 ∷ 1192 ∷ 1193 ∷ 1194 ∷ 1195 ∷ 1196 ∷ 1197 ∷ 1198 ∷ []) (does 1199 row.NonNegative (1188 ∷ 1196 ∷ []) no_covers ∷ []) (exit.OnRaise 1199 ([]) (Some (link 2 (1199 ∷ []))) (link 84 (1182 ∷ 1183 ∷ 1184 ∷ 1185 ∷ 1186 ∷ 1187 ∷ 1199 ∷ 1189 ∷ 1190 ∷ 1191 ∷ 1192 ∷ 1193 ∷ 1194 ∷ 1195 ∷ [])))
        ∷ block (1200 ∷ 1201 ∷ 1202 ∷ 1203 ∷ 1204 ∷ 1205 ∷ 1206 ∷ 1207 ∷ 1208 ∷ 1209 ∷ 1210 ∷ 1211 ∷ 1212 ∷ 1213 ∷ 1214 ∷ 1215 ∷ 1216 ∷ []) (does 1217 row.NonNegative (1203 ∷ 1215 ∷ []) no_covers ∷ []) (exit.OnRaise 1217 ([]) (Some (link 2 (1217 ∷ []))) (link 87 (1200 ∷ 1201 ∷ 1202 ∷ 1217 ∷ 1204 ∷ 1205 ∷ 1206 ∷ 1207 ∷ 1208 ∷ 1209 ∷ 1210 ∷ 1211 ∷ 1212 ∷ 1213 ∷ [])))
        ∷ block (1218 ∷ 1219 ∷ 1220 ∷ 1221 ∷ 1222 ∷ 1223 ∷ 1224 ∷ 1225 ∷ 1226 ∷ 1227 ∷ 1228 ∷ 1229 ∷ 1230 ∷ 1231 ∷ 1232 ∷ 1233 ∷ 1234 ∷ 1235 ∷ []) [] (exit.If 1235 (link 88 (1218 ∷ 1219 ∷ 1220 ∷ 1221 ∷ 1222 ∷ 1223 ∷ 1224 ∷ 1225 ∷ 1226 ∷ 1227 ∷ 1228 ∷ 1229 ∷ 1230 ∷ 1231 ∷ 1232 ∷ 1233 ∷ 1234 ∷ [])) (link 89 (1218 ∷ 1219 ∷ 1220 ∷ 1221 ∷ 1222 ∷ 1223 ∷ 1224 ∷ 1225 ∷ 1226 ∷ 1227 ∷ 1228 ∷ 1229 ∷ 1230 ∷ 1231 ∷ 1232 ∷ 1233 ∷ 1234 ∷ [])))
        ∷ block (1236 ∷ 1237 ∷ 1238 ∷ 1239 ∷ 1240 ∷ 1241 ∷ 1242 ∷ 1243 ∷ 1244 ∷ 1245 ∷ 1246 ∷ 1247 ∷ 1248 ∷ 1249 ∷ 1250 ∷ 1251 ∷ 1252 ∷ []) (does 1253 row.Truth (1252 ∷ []) no_covers ∷ []) (exit.OnRaise 1253 ([]) (Some (link 2 (1253 ∷ []))) (link 90 (1236 ∷ 1237 ∷ 1238 ∷ 1239 ∷ 1240 ∷ 1241 ∷ 1242 ∷ 1243 ∷ 1244 ∷ 1245 ∷ 1246 ∷ 1247 ∷ 1248 ∷ 1249 ∷ 1250 ∷ 1251 ∷ 1252 ∷ 1253 ∷ [])))
        ∷ block (1254 ∷ 1255 ∷ 1256 ∷ 1257 ∷ 1258 ∷ 1259 ∷ 1260 ∷ 1261 ∷ 1262 ∷ 1263 ∷ 1264 ∷ 1265 ∷ 1266 ∷ 1267 ∷ 1268 ∷ 1269 ∷ []) (does 1270 (row.Compare cmp.Lt) (1268 ∷ 1269 ∷ []) no_covers ∷ []) (exit.OnRaise 1270 ([]) (Some (link 2 (1270 ∷ []))) (link 91 (1254 ∷ 1255 ∷ 1256 ∷ 1257 ∷ 1258 ∷ 1259 ∷ 1260 ∷ 1261 ∷ 1262 ∷ 1263 ∷ 1264 ∷ 1265 ∷ 1266 ∷ 1267 ∷ 1268 ∷ 1269 ∷ 1270 ∷ [])))
        ∷ block (1271 ∷ 1272 ∷ 1273 ∷ 1274 ∷ 1275 ∷ 1276 ∷ 1277 ∷ 1278 ∷ 1279 ∷ 1280 ∷ 1281 ∷ 1282 ∷ 1283 ∷ 1284 ∷ 1285 ∷ []) (does 1286 row.Copy (1277 ∷ []) no_covers ∷ []) (exit.OnRaise 1286 ([]) (Some (link 2 (1286 ∷ []))) (link 92 (1271 ∷ 1272 ∷ 1273 ∷ 1274 ∷ 1275 ∷ 1276 ∷ 1277 ∷ 1278 ∷ 1279 ∷ 1280 ∷ 1281 ∷ 1282 ∷ 1283 ∷ 1284 ∷ 1285 ∷ 1286 ∷ [])))
        ∷ block (1287 ∷ 1288 ∷ 1289 ∷ 1290 ∷ 1291 ∷ 1292 ∷ 1293 ∷ 1294 ∷ 1295 ∷ 1296 ∷ 1297 ∷ 1298 ∷ 1299 ∷ 1300 ∷ []) (does 1301 row.Copy (1290 ∷ []) no_covers ∷ []) (exit.OnRaise 1301 ([]) (Some (link 2 (1301 ∷ []))) (link 93 (1287 ∷ 1288 ∷ 1289 ∷ 1290 ∷ 1291 ∷ 1292 ∷ 1293 ∷ 1294 ∷ 1295 ∷ 1296 ∷ 1297 ∷ 1298 ∷ 1299 ∷ 1300 ∷ 1301 ∷ [])))
        ∷ block (1302 ∷ 1303 ∷ 1304 ∷ 1305 ∷ 1306 ∷ 1307 ∷ 1308 ∷ 1309 ∷ 1310 ∷ 1311 ∷ 1312 ∷ 1313 ∷ 1314 ∷ 1315 ∷ 1316 ∷ []) (does 1317 row.Copy (1316 ∷ []) no_covers ∷ []) (exit.OnRaise 1317 ([]) (Some (link 2 (1317 ∷ []))) (link 94 (1302 ∷ 1303 ∷ 1304 ∷ 1317 ∷ 1306 ∷ 1307 ∷ 1308 ∷ 1309 ∷ 1310 ∷ 1311 ∷ 1312 ∷ 1313 ∷ 1314 ∷ 1315 ∷ [])))
        ∷ block (1318 ∷ 1319 ∷ 1320 ∷ 1321 ∷ 1322 ∷ 1323 ∷ 1324 ∷ 1325 ∷ 1326 ∷ 1327 ∷ 1328 ∷ 1329 ∷ 1330 ∷ 1331 ∷ []) (does 1332 (row.Item (Some (pos 1))) (1330 ∷ 1331 ∷ []) no_covers ∷ []) (exit.OnRaise 1332 ([]) (Some (link 2 (1332 ∷ []))) (link 95 (1318 ∷ 1319 ∷ 1320 ∷ 1321 ∷ 1322 ∷ 1323 ∷ 1324 ∷ 1325 ∷ 1326 ∷ 1327 ∷ 1328 ∷ 1329 ∷ 1330 ∷ 1331 ∷ 1332 ∷ [])))
        ∷ block (1333 ∷ 1334 ∷ 1335 ∷ 1336 ∷ 1337 ∷ 1338 ∷ 1339 ∷ 1340 ∷ 1341 ∷ 1342 ∷ 1343 ∷ 1344 ∷ 1345 ∷ 1346 ∷ []) (does 1347 row.Turn ([]) no_covers ∷ []) (exit.OnRaise 1347 ([]) (Some (link 2 (1347 ∷ []))) (link 96 (1333 ∷ 1334 ∷ 1335 ∷ 1336 ∷ 1337 ∷ 1338 ∷ 1339 ∷ 1340 ∷ 1341 ∷ 1342 ∷ 1343 ∷ 1344 ∷ 1345 ∷ 1346 ∷ [])))
        ∷ block (1348 ∷ 1349 ∷ 1350 ∷ 1351 ∷ 1352 ∷ 1353 ∷ 1354 ∷ 1355 ∷ 1356 ∷ 1357 ∷ 1358 ∷ 1359 ∷ 1360 ∷ 1361 ∷ 1362 ∷ []) [] (exit.If 1362 (link 97 (1348 ∷ 1349 ∷ 1350 ∷ 1351 ∷ 1352 ∷ 1353 ∷ 1354 ∷ 1355 ∷ 1356 ∷ 1357 ∷ 1358 ∷ 1359 ∷ 1360 ∷ 1361 ∷ [])) (link 82 (1348 ∷ 1349 ∷ 1350 ∷ 1351 ∷ 1352 ∷ 1353 ∷ 1354 ∷ 1355 ∷ 1356 ∷ 1357 ∷ 1358 ∷ 1359 ∷ [])))
        ∷ block (1363 ∷ 1364 ∷ 1365 ∷ 1366 ∷ 1367 ∷ 1368 ∷ 1369 ∷ 1370 ∷ 1371 ∷ 1372 ∷ 1373 ∷ 1374 ∷ 1375 ∷ 1376 ∷ []) (does 1377 (row.HasItem (Some (pos 1))) (1375 ∷ 1376 ∷ []) no_covers ∷ []) (exit.OnRaise 1377 ([]) (Some (link 2 (1377 ∷ []))) (link 98 (1363 ∷ 1364 ∷ 1365 ∷ 1366 ∷ 1367 ∷ 1368 ∷ 1369 ∷ 1370 ∷ 1371 ∷ 1372 ∷ 1373 ∷ 1374 ∷ 1375 ∷ 1376 ∷ 1377 ∷ [])))
        ∷ block (1378 ∷ 1379 ∷ 1380 ∷ 1381 ∷ 1382 ∷ 1383 ∷ 1384 ∷ 1385 ∷ 1386 ∷ 1387 ∷ 1388 ∷ 1389 ∷ 1390 ∷ []) (does 1391 (row.Word (pos 0)) ([]) no_covers ∷ []) (exit.OnRaise 1391 ([]) (Some (link 2 (1391 ∷ []))) (link 83 (1378 ∷ 1379 ∷ 1380 ∷ 1381 ∷ 1382 ∷ 1383 ∷ 1384 ∷ 1385 ∷ 1386 ∷ 1387 ∷ 1388 ∷ 1389 ∷ 1390 ∷ 1391 ∷ [])))
        ∷ block (1392 ∷ 1393 ∷ 1394 ∷ 1395 ∷ 1396 ∷ 1397 ∷ 1398 ∷ 1399 ∷ 1400 ∷ 1401 ∷ 1402 ∷ 1403 ∷ []) (does 1404 row.Copy (1397 ∷ []) no_covers ∷ []) (exit.OnRaise 1404 ([]) (Some (link 2 (1404 ∷ []))) (link 100 (1392 ∷ 1393 ∷ 1394 ∷ 1395 ∷ 1396 ∷ 1397 ∷ 1398 ∷ 1399 ∷ 1400 ∷ 1401 ∷ 1402 ∷ 1403 ∷ 1404 ∷ [])))
        ∷ block (1405 ∷ 1406 ∷ 1407 ∷ 1408 ∷ 1409 ∷ 1410 ∷ 1411 ∷ 1412 ∷ 1413 ∷ 1414 ∷ 1415 ∷ 1416 ∷ 1417 ∷ 1418 ∷ []) [] (exit.Goto (link 108 (1405 ∷ 1406 ∷ 1407 ∷ 1408 ∷ 1409 ∷ 1410 ∷ 1411 ∷ 1412 ∷ 1413 ∷ 1414 ∷ 1415 ∷ 1416 ∷ 1417 ∷ 1418 ∷ [])))
        ∷ block (1419 ∷ 1420 ∷ 1421 ∷ 1422 ∷ 1423 ∷ 1424 ∷ 1425 ∷ 1426 ∷ 1427 ∷ 1428 ∷ 1429 ∷ 1430 ∷ 1431 ∷ 1432 ∷ []) (does 1433 (row.Advance (Some (pos 3))) (1431 ∷ 1432 ∷ []) no_covers ∷ []) (exit.OnRaise 1433 ([]) (Some (link 2 (1433 ∷ []))) (link 102 (1419 ∷ 1420 ∷ 1421 ∷ 1422 ∷ 1423 ∷ 1424 ∷ 1425 ∷ 1426 ∷ 1427 ∷ 1428 ∷ 1429 ∷ 1430 ∷ 1431 ∷ 1433 ∷ [])))
        ∷ block (1434 ∷ 1435 ∷ 1436 ∷ 1437 ∷ 1438 ∷ 1439 ∷ 1440 ∷ 1441 ∷ 1442 ∷ 1443 ∷ 1444 ∷ 1445 ∷ 1446 ∷ 1447 ∷ 1448 ∷ []) (does 1449 row.Copy (1448 ∷ []) no_covers ∷ []) (exit.OnRaise 1449 ([]) (Some (link 2 (1449 ∷ []))) (link 103 (1434 ∷ 1435 ∷ 1436 ∷ 1449 ∷ 1438 ∷ 1439 ∷ 1440 ∷ 1441 ∷ 1442 ∷ 1443 ∷ 1444 ∷ 1445 ∷ 1446 ∷ 1447 ∷ [])))
        ∷ block (1450 ∷ 1451 ∷ 1452 ∷ 1453 ∷ 1454 ∷ 1455 ∷ 1456 ∷ 1457 ∷ 1458 ∷ 1459 ∷ 1460 ∷ 1461 ∷ 1462 ∷ 1463 ∷ []) (does 1464 (row.Item (Some (pos 3))) (1462 ∷ 1463 ∷ []) no_covers ∷ []) (exit.OnRaise 1464 ([]) (Some (link 2 (1464 ∷ []))) (link 104 (1450 ∷ 1451 ∷ 1452 ∷ 1453 ∷ 1454 ∷ 1455 ∷ 1456 ∷ 1457 ∷ 1458 ∷ 1459 ∷ 1460 ∷ 1461 ∷ 1462 ∷ 1463 ∷ 1464 ∷ [])))
        ∷ block (1465 ∷ 1466 ∷ 1467 ∷ 1468 ∷ 1469 ∷ 1470 ∷ 1471 ∷ 1472 ∷ 1473 ∷ 1474 ∷ 1475 ∷ 1476 ∷ 1477 ∷ 1478 ∷ []) (does 1479 row.Turn ([]) no_covers ∷ []) (exit.OnRaise 1479 ([]) (Some (link 2 (1479 ∷ []))) (link 105 (1465 ∷ 1466 ∷ 1467 ∷ 1468 ∷ 1469 ∷ 1470 ∷ 1471 ∷ 1472 ∷ 1473 ∷ 1474 ∷ 1475 ∷ 1476 ∷ 1477 ∷ 1478 ∷ [])))
        ∷ block (1480 ∷ 1481 ∷ 1482 ∷ 1483 ∷ 1484 ∷ 1485 ∷ 1486 ∷ 1487 ∷ 1488 ∷ 1489 ∷ 1490 ∷ 1491 ∷ 1492 ∷ 1493 ∷ 1494 ∷ []) [] (exit.If 1494 (link 106 (1480 ∷ 1481 ∷ 1482 ∷ 1483 ∷ 1484 ∷ 1485 ∷ 1486 ∷ 1487 ∷ 1488 ∷ 1489 ∷ 1490 ∷ 1491 ∷ 1492 ∷ 1493 ∷ [])) (link 101 (1480 ∷ 1481 ∷ 1482 ∷ 1483 ∷ 1484 ∷ 1485 ∷ 1486 ∷ 1487 ∷ 1488 ∷ 1489 ∷ 1490 ∷ 1491 ∷ [])))
        ∷ block (1495 ∷ 1496 ∷ 1497 ∷ 1498 ∷ 1499 ∷ 1500 ∷ 1501 ∷ 1502 ∷ 1503 ∷ 1504 ∷ 1505 ∷ 1506 ∷ 1507 ∷ 1508 ∷ []) (does 1509 (row.HasItem (Some (pos 3))) (1507 ∷ 1508 ∷ []) no_covers ∷ []) (exit.OnRaise 1509 ([]) (Some (link 2 (1509 ∷ []))) (link 107 (1495 ∷ 1496 ∷ 1497 ∷ 1498 ∷ 1499 ∷ 1500 ∷ 1501 ∷ 1502 ∷ 1503 ∷ 1504 ∷ 1505 ∷ 1506 ∷ 1507 ∷ 1508 ∷ 1509 ∷ [])))
        ∷ block (1510 ∷ 1511 ∷ 1512 ∷ 1513 ∷ 1514 ∷ 1515 ∷ 1516 ∷ 1517 ∷ 1518 ∷ 1519 ∷ 1520 ∷ 1521 ∷ 1522 ∷ 1523 ∷ []) [] (exit.Goto (link 102 (1510 ∷ 1511 ∷ 1512 ∷ 1513 ∷ 1514 ∷ 1515 ∷ 1516 ∷ 1517 ∷ 1518 ∷ 1519 ∷ 1520 ∷ 1521 ∷ 1523 ∷ 1522 ∷ [])))
        ∷ block (1524 ∷ 1525 ∷ 1526 ∷ 1527 ∷ 1528 ∷ 1529 ∷ 1530 ∷ 1531 ∷ 1532 ∷ 1533 ∷ 1534 ∷ 1535 ∷ 1536 ∷ []) (does 1537 row.Copy (1529 ∷ []) no_covers ∷ []) (exit.OnRaise 1537 ([]) (Some (link 2 (1537 ∷ []))) (link 109 (1524 ∷ 1525 ∷ 1526 ∷ 1527 ∷ 1528 ∷ 1529 ∷ 1530 ∷ 1531 ∷ 1532 ∷ 1533 ∷ 1534 ∷ 1535 ∷ 1536 ∷ 1537 ∷ [])))
        ∷ block (1538 ∷ 1539 ∷ 1540 ∷ 1541 ∷ 1542 ∷ 1543 ∷ 1544 ∷ 1545 ∷ 1546 ∷ 1547 ∷ 1548 ∷ 1549 ∷ []) (does 1550 (row.Word (pos 2)) ([]) no_covers ∷ []) (exit.OnRaise 1550 ([]) (Some (link 2 (1550 ∷ []))) (link 110 (1538 ∷ 1539 ∷ 1540 ∷ 1541 ∷ 1542 ∷ 1543 ∷ 1544 ∷ 1545 ∷ 1546 ∷ 1547 ∷ 1548 ∷ 1549 ∷ 1550 ∷ [])))
        ∷ block (1551 ∷ 1552 ∷ 1553 ∷ 1554 ∷ 1555 ∷ 1556 ∷ 1557 ∷ 1558 ∷ 1559 ∷ 1560 ∷ 1561 ∷ 1562 ∷ 1563 ∷ []) (does 1564 row.Copy (1563 ∷ []) no_covers ∷ []) (exit.OnRaise 1564 ([]) (Some (link 2 (1564 ∷ []))) (link 111 (1551 ∷ 1552 ∷ 1553 ∷ 1554 ∷ 1555 ∷ 1556 ∷ 1557 ∷ 1558 ∷ 1564 ∷ 1560 ∷ 1561 ∷ 1562 ∷ [])))
        ∷ block (1565 ∷ 1566 ∷ 1567 ∷ 1568 ∷ 1569 ∷ 1570 ∷ 1571 ∷ 1572 ∷ 1573 ∷ 1574 ∷ 1575 ∷ 1576 ∷ []) (does 1577 (row.Word (pos 1)) ([]) no_covers ∷ []) (exit.OnRaise 1577 ([]) (Some (link 2 (1577 ∷ []))) (link 112 (1565 ∷ 1566 ∷ 1567 ∷ 1568 ∷ 1569 ∷ 1570 ∷ 1571 ∷ 1572 ∷ 1573 ∷ 1574 ∷ 1575 ∷ 1576 ∷ 1577 ∷ [])))
        ∷ block (1578 ∷ 1579 ∷ 1580 ∷ 1581 ∷ 1582 ∷ 1583 ∷ 1584 ∷ 1585 ∷ 1586 ∷ 1587 ∷ 1588 ∷ 1589 ∷ 1590 ∷ []) (does 1591 row.Copy (1590 ∷ []) no_covers ∷ []) (exit.OnRaise 1591 ([]) (Some (link 2 (1591 ∷ []))) (link 111 (1578 ∷ 1579 ∷ 1580 ∷ 1581 ∷ 1582 ∷ 1583 ∷ 1584 ∷ 1585 ∷ 1586 ∷ 1591 ∷ 1588 ∷ 1589 ∷ [])))
        ∷ block (1592 ∷ 1593 ∷ 1594 ∷ 1595 ∷ 1596 ∷ 1597 ∷ 1598 ∷ 1599 ∷ 1600 ∷ 1601 ∷ 1602 ∷ 1603 ∷ []) (does 1604 (row.Constant const.None) ([]) no_covers ∷ []) (exit.OnRaise 1604 ([]) (Some (link 2 (1604 ∷ []))) (link 114 (1592 ∷ 1593 ∷ 1594 ∷ 1595 ∷ 1596 ∷ 1597 ∷ 1598 ∷ 1599 ∷ 1600 ∷ 1601 ∷ 1602 ∷ 1603 ∷ 1604 ∷ [])))
        ∷ block (1605 ∷ 1606 ∷ 1607 ∷ 1608 ∷ 1609 ∷ 1610 ∷ 1611 ∷ 1612 ∷ 1613 ∷ 1614 ∷ 1615 ∷ 1616 ∷ 1617 ∷ []) [] (exit.Goto (link 111 (1605 ∷ 1606 ∷ 1607 ∷ 1608 ∷ 1609 ∷ 1610 ∷ 1611 ∷ 1612 ∷ 1613 ∷ 1614 ∷ 1615 ∷ 1616 ∷ [])))
        ∷ block (1618 ∷ 1619 ∷ 1620 ∷ 1621 ∷ 1622 ∷ 1623 ∷ 1624 ∷ 1625 ∷ 1626 ∷ 1627 ∷ 1628 ∷ 1629 ∷ 1630 ∷ 1631 ∷ []) (does 1632 row.DeleteIndex (1630 ∷ 1631 ∷ []) no_covers ∷ []) (exit.OnRaise 1632 ([]) (Some (link 2 (1632 ∷ []))) (link 116 (1618 ∷ 1619 ∷ 1620 ∷ 1621 ∷ 1622 ∷ 1623 ∷ 1624 ∷ 1625 ∷ 1626 ∷ 1627 ∷ 1628 ∷ 1629 ∷ 1632 ∷ [])))
        ∷ block (1633 ∷ 1634 ∷ 1635 ∷ 1636 ∷ 1637 ∷ 1638 ∷ 1639 ∷ 1640 ∷ 1641 ∷ 1642 ∷ 1643 ∷ 1644 ∷ 1645 ∷ []) (does 1646 (row.Word (pos 0)) ([]) no_covers ∷ []) (exit.OnRaise 1646 ([]) (Some (link 2 (1646 ∷ []))) (link 117 (1633 ∷ 1634 ∷ 1635 ∷ 1636 ∷ 1637 ∷ 1638 ∷ 1639 ∷ 1640 ∷ 1641 ∷ 1642 ∷ 1643 ∷ 1644 ∷ 1645 ∷ 1646 ∷ [])))
        ∷ block (1647 ∷ 1648 ∷ 1649 ∷ 1650 ∷ 1651 ∷ 1652 ∷ 1653 ∷ 1654 ∷ 1655 ∷ 1656 ∷ 1657 ∷ 1658 ∷ []) (does 1659 row.Copy (1649 ∷ []) no_covers ∷ []) (exit.OnRaise 1659 ([]) (Some (link 2 (1659 ∷ []))) (link 118 (1647 ∷ 1648 ∷ 1649 ∷ 1650 ∷ 1651 ∷ 1652 ∷ 1653 ∷ 1654 ∷ 1655 ∷ 1656 ∷ 1657 ∷ 1658 ∷ 1659 ∷ [])))
        ∷ block (1660 ∷ 1661 ∷ 1662 ∷ 1663 ∷ 1664 ∷ 1665 ∷ 1666 ∷ 1667 ∷ 1668 ∷ 1669 ∷ 1670 ∷ 1671 ∷ 1672 ∷ []) [] (exit.Goto (link 111 (1660 ∷ 1661 ∷ 1662 ∷ 1663 ∷ 1664 ∷ 1665 ∷ 1666 ∷ 1667 ∷ 1668 ∷ 1669 ∷ 1670 ∷ 1671 ∷ [])))
        ∷ block (1673 ∷ 1674 ∷ 1675 ∷ 1676 ∷ 1677 ∷ 1678 ∷ 1679 ∷ 1680 ∷ 1681 ∷ 1682 ∷ 1683 ∷ 1684 ∷ []) (does 1685 row.None ([]) (covering true true true true) ∷ []) (exit.OnRaise 1685 ((6, (link 115 (1673 ∷ 1674 ∷ 1675 ∷ 1676 ∷ 1677 ∷ 1678 ∷ 1679 ∷ 1680 ∷ 1681 ∷ 1682 ∷ 1685 ∷ 1684 ∷ []))) ∷ (7, (link 115 (1673 ∷ 1674 ∷ 1675 ∷ 1676 ∷ 1677 ∷ 1678 ∷ 1679 ∷ 1680 ∷ 1681 ∷ 1682 ∷ 1685 ∷ 1684 ∷ []))) ∷ (8, (link 119 (1673 ∷ 1674 ∷ 1675 ∷ 1676 ∷ 1677 ∷ 1678 ∷ 1679 ∷ 1680 ∷ 1681 ∷ 1682 ∷ 1683 ∷ 1684 ∷ []))) ∷ []) (Some (link 120 (1673 ∷ 1674 ∷ 1675 ∷ 1676 ∷ 1677 ∷ 1678 ∷ 1679 ∷ 1680 ∷ 1681 ∷ 1682 ∷ 1683 ∷ 1684 ∷ 1685 ∷ []))) (link 113 (1673 ∷ 1674 ∷ 1675 ∷ 1676 ∷ 1677 ∷ 1678 ∷ 1679 ∷ 1680 ∷ 1681 ∷ 1682 ∷ 1683 ∷ 1684 ∷ [])))
        ∷ block (1686 ∷ 1687 ∷ 1688 ∷ 1689 ∷ 1690 ∷ 1691 ∷ 1692 ∷ 1693 ∷ 1694 ∷ 1695 ∷ 1696 ∷ 1697 ∷ 1698 ∷ []) (does 1699 row.Copy (1698 ∷ []) (covering true true true true) ∷ []) (exit.OnRaise 1699 ((6, (link 115 (1686 ∷ 1687 ∷ 1688 ∷ 1689 ∷ 1690 ∷ 1691 ∷ 1692 ∷ 1693 ∷ 1694 ∷ 1695 ∷ 1699 ∷ 1697 ∷ []))) ∷ (7, (link 115 (1686 ∷ 1687 ∷ 1688 ∷ 1689 ∷ 1690 ∷ 1691 ∷ 1692 ∷ 1693 ∷ 1694 ∷ 1695 ∷ 1699 ∷ 1697 ∷ []))) ∷ (8, (link 119 (1686 ∷ 1687 ∷ 1688 ∷ 1689 ∷ 1690 ∷ 1691 ∷ 1692 ∷ 1693 ∷ 1694 ∷ 1695 ∷ 1696 ∷ 1697 ∷ []))) ∷ []) (Some (link 120 (1686 ∷ 1687 ∷ 1688 ∷ 1689 ∷ 1690 ∷ 1691 ∷ 1692 ∷ 1693 ∷ 1694 ∷ 1695 ∷ 1696 ∷ 1697 ∷ 1699 ∷ []))) (link 121 (1686 ∷ 1687 ∷ 1688 ∷ 1689 ∷ 1690 ∷ 1691 ∷ 1692 ∷ 1693 ∷ 1699 ∷ 1695 ∷ 1696 ∷ 1697 ∷ [])))
        ∷ block (1700 ∷ 1701 ∷ 1702 ∷ 1703 ∷ 1704 ∷ 1705 ∷ 1706 ∷ 1707 ∷ 1708 ∷ 1709 ∷ 1710 ∷ 1711 ∷ 1712 ∷ 1713 ∷ []) (does 1714 (row.Index (Some (pos 7))) (1712 ∷ 1713 ∷ []) (covering true true true true) ∷ []) (exit.OnRaise 1714 ((6, (link 115 (1700 ∷ 1701 ∷ 1702 ∷ 1703 ∷ 1704 ∷ 1705 ∷ 1706 ∷ 1707 ∷ 1708 ∷ 1709 ∷ 1714 ∷ 1711 ∷ []))) ∷ (7, (link 115 (1700 ∷ 1701 ∷ 1702 ∷ 1703 ∷ 1704 ∷ 1705 ∷ 1706 ∷ 1707 ∷ 1708 ∷ 1709 ∷ 1714 ∷ 1711 ∷ []))) ∷ (8, (link 119 (1700 ∷ 1701 ∷ 1702 ∷ 1703 ∷ 1704 ∷ 1705 ∷ 1706 ∷ 1707 ∷ 1708 ∷ 1709 ∷ 1710 ∷ 1711 ∷ []))) ∷ []) (Some (link 120 (1700 ∷ 1701 ∷ 1702 ∷ 1703 ∷ 1704 ∷ 1705 ∷ 1706 ∷ 1707 ∷ 1708 ∷ 1709 ∷ 1710 ∷ 1711 ∷ 1714 ∷ []))) (link 122 (1700 ∷ 1701 ∷ 1702 ∷ 1703 ∷ 1704 ∷ 1705 ∷ 1706 ∷ 1707 ∷ 1708 ∷ 1709 ∷ 1710 ∷ 1711 ∷ 1714 ∷ [])))
        ∷ block (1715 ∷ 1716 ∷ 1717 ∷ 1718 ∷ 1719 ∷ 1720 ∷ 1721 ∷ 1722 ∷ 1723 ∷ 1724 ∷ 1725 ∷ 1726 ∷ 1727 ∷ []) (does 1728 (row.Word (pos 7)) ([]) (covering true true true true) ∷ []) (exit.OnRaise 1728 ((6, (link 115 (1715 ∷ 1716 ∷ 1717 ∷ 1718 ∷ 1719 ∷ 1720 ∷ 1721 ∷ 1722 ∷ 1723 ∷ 1724 ∷ 1728 ∷ 1726 ∷ []))) ∷ (7, (link 115 (1715 ∷ 1716 ∷ 1717 ∷ 1718 ∷ 1719 ∷ 1720 ∷ 1721 ∷ 1722 ∷ 1723 ∷ 1724 ∷ 1728 ∷ 1726 ∷ []))) ∷ (8, (link 119 (1715 ∷ 1716 ∷ 1717 ∷ 1718 ∷ 1719 ∷ 1720 ∷ 1721 ∷ 1722 ∷ 1723 ∷ 1724 ∷ 1725 ∷ 1726 ∷ []))) ∷ []) (Some (link 120 (1715 ∷ 1716 ∷ 1717 ∷ 1718 ∷ 1719 ∷ 1720 ∷ 1721 ∷ 1722 ∷ 1723 ∷ 1724 ∷ 1725 ∷ 1726 ∷ 1728 ∷ []))) (link 123 (1715 ∷ 1716 ∷ 1717 ∷ 1718 ∷ 1719 ∷ 1720 ∷ 1721 ∷ 1722 ∷ 1723 ∷ 1724 ∷ 1725 ∷ 1726 ∷ 1727 ∷ 1728 ∷ [])))
        ∷ block (1729 ∷ 1730 ∷ 1731 ∷ 1732 ∷ 1733 ∷ 1734 ∷ 1735 ∷ 1736 ∷ 1737 ∷ 1738 ∷ 1739 ∷ 1740 ∷ []) (does 1741 row.Copy (1731 ∷ []) (covering true true true true) ∷ []) (exit.OnRaise 1741 ((6, (link 115 (1729 ∷ 1730 ∷ 1731 ∷ 1732 ∷ 1733 ∷ 1734 ∷ 1735 ∷ 1736 ∷ 1737 ∷ 1738 ∷ 1741 ∷ 1740 ∷ []))) ∷ (7, (link 115 (1729 ∷ 1730 ∷ 1731 ∷ 1732 ∷ 1733 ∷ 1734 ∷ 1735 ∷ 1736 ∷ 1737 ∷ 1738 ∷ 1741 ∷ 1740 ∷ []))) ∷ (8, (link 119 (1729 ∷ 1730 ∷ 1731 ∷ 1732 ∷ 1733 ∷ 1734 ∷ 1735 ∷ 1736 ∷ 1737 ∷ 1738 ∷ 1739 ∷ 1740 ∷ []))) ∷ []) (Some (link 120 (1729 ∷ 1730 ∷ 1731 ∷ 1732 ∷ 1733 ∷ 1734 ∷ 1735 ∷ 1736 ∷ 1737 ∷ 1738 ∷ 1739 ∷ 1740 ∷ 1741 ∷ []))) (link 124 (1729 ∷ 1730 ∷ 1731 ∷ 1732 ∷ 1733 ∷ 1734 ∷ 1735 ∷ 1736 ∷ 1737 ∷ 1738 ∷ 1739 ∷ 1740 ∷ 1741 ∷ [])))
        ∷ block (1742 ∷ 1743 ∷ 1744 ∷ 1745 ∷ 1746 ∷ 1747 ∷ 1748 ∷ 1749 ∷ 1750 ∷ 1751 ∷ 1752 ∷ 1753 ∷ []) (does 1754 row.None ([]) (covering true true true true) ∷ []) (exit.OnRaise 1754 ((6, (link 115 (1742 ∷ 1743 ∷ 1744 ∷ 1745 ∷ 1746 ∷ 1747 ∷ 1748 ∷ 1749 ∷ 1750 ∷ 1751 ∷ 1754 ∷ 1753 ∷ []))) ∷ (7, (link 115 (1742 ∷ 1743 ∷ 1744 ∷ 1745 ∷ 1746 ∷ 1747 ∷ 1748 ∷ 1749 ∷ 1750 ∷ 1751 ∷ 1754 ∷ 1753 ∷ []))) ∷ (8, (link 119 (1742 ∷ 1743 ∷ 1744 ∷ 1745 ∷ 1746 ∷ 1747 ∷ 1748 ∷ 1749 ∷ 1750 ∷ 1751 ∷ 1752 ∷ 1753 ∷ []))) ∷ []) (Some (link 120 (1742 ∷ 1743 ∷ 1744 ∷ 1745 ∷ 1746 ∷ 1747 ∷ 1748 ∷ 1749 ∷ 1750 ∷ 1751 ∷ 1752 ∷ 1753 ∷ 1754 ∷ []))) (link 125 (1742 ∷ 1743 ∷ 1744 ∷ 1745 ∷ 1746 ∷ 1747 ∷ 1748 ∷ 1749 ∷ 1750 ∷ 1751 ∷ 1752 ∷ 1753 ∷ [])))
        ∷ block (1755 ∷ 1756 ∷ 1757 ∷ 1758 ∷ 1759 ∷ 1760 ∷ 1761 ∷ 1762 ∷ 1763 ∷ 1764 ∷ 1765 ∷ 1766 ∷ 1767 ∷ []) (does 1768 row.Copy (1767 ∷ []) no_covers ∷ []) (exit.OnRaise 1768 ([]) (Some (link 2 (1768 ∷ []))) (link 126 (1755 ∷ 1756 ∷ 1757 ∷ 1758 ∷ 1759 ∷ 1760 ∷ 1761 ∷ 1762 ∷ 1763 ∷ 1768 ∷ 1765 ∷ 1766 ∷ [])))
        ∷ block (1769 ∷ 1770 ∷ 1771 ∷ 1772 ∷ 1773 ∷ 1774 ∷ 1775 ∷ 1776 ∷ 1777 ∷ 1778 ∷ 1779 ∷ 1780 ∷ 1781 ∷ []) (does 1782 row.Copy (1781 ∷ []) no_covers ∷ []) (exit.OnRaise 1782 ([]) (Some (link 2 (1782 ∷ []))) (link 127 (1769 ∷ 1770 ∷ 1771 ∷ 1772 ∷ 1773 ∷ 1774 ∷ 1775 ∷ 1776 ∷ 1777 ∷ 1778 ∷ 1779 ∷ 1780 ∷ 1782 ∷ [])))
        ∷ block (1783 ∷ 1784 ∷ 1785 ∷ 1786 ∷ 1787 ∷ 1788 ∷ 1789 ∷ 1790 ∷ 1791 ∷ 1792 ∷ 1793 ∷ 1794 ∷ []) (does 1795 (row.Bool true) ([]) no_covers ∷ []) (exit.OnRaise 1795 ([]) (Some (link 2 (1795 ∷ []))) (link 128 (1783 ∷ 1784 ∷ 1785 ∷ 1786 ∷ 1787 ∷ 1788 ∷ 1789 ∷ 1790 ∷ 1791 ∷ 1792 ∷ 1793 ∷ 1794 ∷ 1795 ∷ [])))
        ∷ block (1796 ∷ 1797 ∷ 1798 ∷ 1799 ∷ 1800 ∷ 1801 ∷ 1802 ∷ 1803 ∷ 1804 ∷ 1805 ∷ 1806 ∷ 1807 ∷ []) (does 1808 (row.Bool false) ([]) no_covers ∷ []) (exit.OnRaise 1808 ([]) (Some (link 2 (1808 ∷ []))) (link 128 (1796 ∷ 1797 ∷ 1798 ∷ 1799 ∷ 1800 ∷ 1801 ∷ 1802 ∷ 1803 ∷ 1804 ∷ 1805 ∷ 1806 ∷ 1807 ∷ 1808 ∷ [])))
        ∷ block (1809 ∷ 1810 ∷ 1811 ∷ 1812 ∷ 1813 ∷ 1814 ∷ 1815 ∷ 1816 ∷ 1817 ∷ 1818 ∷ 1819 ∷ 1820 ∷ 1821 ∷ []) (does 1822 row.DropNone (1815 ∷ []) no_covers ∷ []) (exit.OnRaise 1822 ([]) (Some (link 2 (1822 ∷ []))) (link 130 (1809 ∷ 1810 ∷ 1811 ∷ 1812 ∷ 1813 ∷ 1814 ∷ 1822 ∷ 1816 ∷ 1817 ∷ 1818 ∷ 1819 ∷ 1820 ∷ [])))
        ∷ block (1823 ∷ 1824 ∷ 1825 ∷ 1826 ∷ 1827 ∷ 1828 ∷ 1829 ∷ 1830 ∷ 1831 ∷ 1832 ∷ 1833 ∷ 1834 ∷ 1835 ∷ []) (does 1836 row.FalseNone (1829 ∷ []) no_covers ∷ []) (exit.OnRaise 1836 ([]) (Some (link 2 (1836 ∷ []))) (link 129 (1823 ∷ 1824 ∷ 1825 ∷ 1826 ∷ 1827 ∷ 1828 ∷ 1836 ∷ 1830 ∷ 1831 ∷ 1832 ∷ 1833 ∷ 1834 ∷ [])))
        ∷ block (1837 ∷ 1838 ∷ 1839 ∷ 1840 ∷ 1841 ∷ 1842 ∷ 1843 ∷ 1844 ∷ 1845 ∷ 1846 ∷ 1847 ∷ 1848 ∷ 1849 ∷ 1850 ∷ []) [] (exit.If 1850 (link 131 (1837 ∷ 1838 ∷ 1839 ∷ 1840 ∷ 1841 ∷ 1842 ∷ 1843 ∷ 1844 ∷ 1845 ∷ 1846 ∷ 1847 ∷ 1848 ∷ 1849 ∷ [])) (link 132 (1837 ∷ 1838 ∷ 1839 ∷ 1840 ∷ 1841 ∷ 1842 ∷ 1843 ∷ 1844 ∷ 1845 ∷ 1846 ∷ 1847 ∷ 1848 ∷ 1849 ∷ [])))
        ∷ block (1851 ∷ 1852 ∷ 1853 ∷ 1854 ∷ 1855 ∷ 1856 ∷ 1857 ∷ 1858 ∷ 1859 ∷ 1860 ∷ 1861 ∷ 1862 ∷ 1863 ∷ []) (does 1864 row.Truth (1863 ∷ []) no_covers ∷ []) (exit.OnRaise 1864 ([]) (Some (link 2 (1864 ∷ []))) (link 133 (1851 ∷ 1852 ∷ 1853 ∷ 1854 ∷ 1855 ∷ 1856 ∷ 1857 ∷ 1858 ∷ 1859 ∷ 1860 ∷ 1861 ∷ 1862 ∷ 1863 ∷ 1864 ∷ [])))
        ∷ block (1865 ∷ 1866 ∷ 1867 ∷ 1868 ∷ 1869 ∷ 1870 ∷ 1871 ∷ 1872 ∷ 1873 ∷ 1874 ∷ 1875 ∷ 1876 ∷ []) (does 1877 row.Copy (1871 ∷ []) no_covers ∷ []) (exit.OnRaise 1877 ([]) (Some (link 2 (1877 ∷ []))) (link 134 (1865 ∷ 1866 ∷ 1867 ∷ 1868 ∷ 1869 ∷ 1870 ∷ 1871 ∷ 1872 ∷ 1873 ∷ 1874 ∷ 1875 ∷ 1876 ∷ 1877 ∷ [])))
        ∷ block (1878 ∷ 1879 ∷ 1880 ∷ 1881 ∷ 1882 ∷ 1883 ∷ 1884 ∷ 1885 ∷ 1886 ∷ 1887 ∷ 1888 ∷ 1889 ∷ 1890 ∷ []) (does 1891 row.DropNone (1883 ∷ []) no_covers ∷ []) (exit.OnRaise 1891 ([]) (Some (link 2 (1891 ∷ []))) (link 135 (1878 ∷ 1879 ∷ 1880 ∷ 1881 ∷ 1882 ∷ 1891 ∷ 1884 ∷ 1885 ∷ 1886 ∷ 1887 ∷ 1888 ∷ 1889 ∷ [])))
        ∷ block (1892 ∷ 1893 ∷ 1894 ∷ 1895 ∷ 1896 ∷ 1897 ∷ 1898 ∷ 1899 ∷ 1900 ∷ 1901 ∷ 1902 ∷ 1903 ∷ 1904 ∷ []) (does 1905 row.FalseNone (1897 ∷ []) no_covers ∷ []) (exit.OnRaise 1905 ([]) (Some (link 2 (1905 ∷ []))) (link 129 (1892 ∷ 1893 ∷ 1894 ∷ 1895 ∷ 1896 ∷ 1905 ∷ 1898 ∷ 1899 ∷ 1900 ∷ 1901 ∷ 1902 ∷ 1903 ∷ [])))
        ∷ block (1906 ∷ 1907 ∷ 1908 ∷ 1909 ∷ 1910 ∷ 1911 ∷ 1912 ∷ 1913 ∷ 1914 ∷ 1915 ∷ 1916 ∷ 1917 ∷ 1918 ∷ 1919 ∷ []) [] (exit.If 1919 (link 136 (1906 ∷ 1907 ∷ 1908 ∷ 1909 ∷ 1910 ∷ 1911 ∷ 1912 ∷ 1913 ∷ 1914 ∷ 1915 ∷ 1916 ∷ 1917 ∷ 1918 ∷ [])) (link 137 (1906 ∷ 1907 ∷ 1908 ∷ 1909 ∷ 1910 ∷ 1911 ∷ 1912 ∷ 1913 ∷ 1914 ∷ 1915 ∷ 1916 ∷ 1917 ∷ 1918 ∷ [])))
        ∷ block (1920 ∷ 1921 ∷ 1922 ∷ 1923 ∷ 1924 ∷ 1925 ∷ 1926 ∷ 1927 ∷ 1928 ∷ 1929 ∷ 1930 ∷ 1931 ∷ 1932 ∷ []) (does 1933 row.Truth (1932 ∷ []) no_covers ∷ []) (exit.OnRaise 1933 ([]) (Some (link 2 (1933 ∷ []))) (link 138 (1920 ∷ 1921 ∷ 1922 ∷ 1923 ∷ 1924 ∷ 1925 ∷ 1926 ∷ 1927 ∷ 1928 ∷ 1929 ∷ 1930 ∷ 1931 ∷ 1932 ∷ 1933 ∷ [])))
        ∷ block (1934 ∷ 1935 ∷ 1936 ∷ 1937 ∷ 1938 ∷ 1939 ∷ 1940 ∷ 1941 ∷ 1942 ∷ 1943 ∷ 1944 ∷ 1945 ∷ []) (does 1946 row.Copy (1939 ∷ []) no_covers ∷ []) (exit.OnRaise 1946 ([]) (Some (link 2 (1946 ∷ []))) (link 139 (1934 ∷ 1935 ∷ 1936 ∷ 1937 ∷ 1938 ∷ 1939 ∷ 1940 ∷ 1941 ∷ 1942 ∷ 1943 ∷ 1944 ∷ 1945 ∷ 1946 ∷ [])))
        ∷ block (1947 ∷ 1948 ∷ 1949 ∷ 1950 ∷ 1951 ∷ 1952 ∷ 1953 ∷ 1954 ∷ 1955 ∷ 1956 ∷ 1957 ∷ 1958 ∷ 1959 ∷ []) (does 1960 row.Copy (1959 ∷ []) no_covers ∷ []) (exit.OnRaise 1960 ([]) (Some (link 2 (1960 ∷ []))) (link 140 (1947 ∷ 1948 ∷ 1949 ∷ 1950 ∷ 1951 ∷ 1952 ∷ 1953 ∷ 1954 ∷ 1960 ∷ 1956 ∷ 1957 ∷ 1958 ∷ [])))
        ∷ block (1961 ∷ 1962 ∷ 1963 ∷ 1964 ∷ 1965 ∷ 1966 ∷ 1967 ∷ 1968 ∷ 1969 ∷ 1970 ∷ 1971 ∷ 1972 ∷ 1973 ∷ []) (does 1974 row.Copy (1973 ∷ []) no_covers ∷ []) (exit.OnRaise 1974 ([]) (Some (link 2 (1974 ∷ []))) (link 141 (1961 ∷ 1962 ∷ 1963 ∷ 1964 ∷ 1965 ∷ 1966 ∷ 1967 ∷ 1968 ∷ 1969 ∷ 1970 ∷ 1971 ∷ 1972 ∷ 1974 ∷ [])))
        ∷ block (1975 ∷ 1976 ∷ 1977 ∷ 1978 ∷ 1979 ∷ 1980 ∷ 1981 ∷ 1982 ∷ 1983 ∷ 1984 ∷ 1985 ∷ 1986 ∷ []) (does 1987 row.Copy (1981 ∷ []) no_covers ∷ []) (exit.OnRaise 1987 ([]) (Some (link 2 (1987 ∷ []))) (link 142 (1975 ∷ 1976 ∷ 1977 ∷ 1978 ∷ 1979 ∷ 1980 ∷ 1981 ∷ 1982 ∷ 1983 ∷ 1984 ∷ 1985 ∷ 1986 ∷ 1987 ∷ [])))
        ∷ block (1988 ∷ 1989 ∷ 1990 ∷ 1991 ∷ 1992 ∷ 1993 ∷ 1994 ∷ 1995 ∷ 1996 ∷ 1997 ∷ 1998 ∷ 1999 ∷ 2000 ∷ []) (does 2001 row.FalseNone (1993 ∷ []) no_covers ∷ []) (exit.OnRaise 2001 ([]) (Some (link 2 (2001 ∷ []))) (link 143 (1988 ∷ 1989 ∷ 1990 ∷ 1991 ∷ 1992 ∷ 2001 ∷ 1994 ∷ 1995 ∷ 1996 ∷ 1997 ∷ 1998 ∷ 1999 ∷ [])))
        ∷ block (2002 ∷ 2003 ∷ 2004 ∷ 2005 ∷ 2006 ∷ 2007 ∷ 2008 ∷ 2009 ∷ 2010 ∷ 2011 ∷ 2012 ∷ 2013 ∷ 2014 ∷ 2015 ∷ []) [] (exit.If 2015 (link 142 (2002 ∷ 2003 ∷ 2004 ∷ 2005 ∷ 2006 ∷ 2007 ∷ 2008 ∷ 2009 ∷ 2010 ∷ 2011 ∷ 2012 ∷ 2013 ∷ 2014 ∷ [])) (link 144 (2002 ∷ 2003 ∷ 2004 ∷ 2005 ∷ 2006 ∷ 2007 ∷ 2008 ∷ 2009 ∷ 2010 ∷ 2011 ∷ 2012 ∷ 2013 ∷ 2014 ∷ [])))
        ∷ block (2016 ∷ 2017 ∷ 2018 ∷ 2019 ∷ 2020 ∷ 2021 ∷ 2022 ∷ 2023 ∷ 2024 ∷ 2025 ∷ 2026 ∷ 2027 ∷ 2028 ∷ []) (does 2029 row.Truth (2028 ∷ []) no_covers ∷ []) (exit.OnRaise 2029 ([]) (Some (link 2 (2029 ∷ []))) (link 145 (2016 ∷ 2017 ∷ 2018 ∷ 2019 ∷ 2020 ∷ 2021 ∷ 2022 ∷ 2023 ∷ 2024 ∷ 2025 ∷ 2026 ∷ 2027 ∷ 2028 ∷ 2029 ∷ [])))
        ∷ block (2030 ∷ 2031 ∷ 2032 ∷ 2033 ∷ 2034 ∷ 2035 ∷ 2036 ∷ 2037 ∷ 2038 ∷ 2039 ∷ 2040 ∷ 2041 ∷ []) (does 2042 row.Copy (2035 ∷ []) no_covers ∷ []) (exit.OnRaise 2042 ([]) (Some (link 2 (2042 ∷ []))) (link 146 (2030 ∷ 2031 ∷ 2032 ∷ 2033 ∷ 2034 ∷ 2035 ∷ 2036 ∷ 2037 ∷ 2038 ∷ 2039 ∷ 2040 ∷ 2041 ∷ 2042 ∷ [])))
        ∷ block (2043 ∷ 2044 ∷ 2045 ∷ 2046 ∷ 2047 ∷ 2048 ∷ 2049 ∷ 2050 ∷ 2051 ∷ 2052 ∷ 2053 ∷ 2054 ∷ 2055 ∷ []) [] (exit.Goto (link 147 (2043 ∷ 2044 ∷ 2045 ∷ 2046 ∷ 2047 ∷ 2048 ∷ 2049 ∷ 2050 ∷ 2051 ∷ 2052 ∷ 2053 ∷ 2054 ∷ [])))
        ∷ block (2056 ∷ 2057 ∷ 2058 ∷ 2059 ∷ 2060 ∷ 2061 ∷ 2062 ∷ 2063 ∷ 2064 ∷ 2065 ∷ 2066 ∷ 2067 ∷ 2068 ∷ 2069 ∷ 2070 ∷ 2071 ∷ []) (does 2072 row.StoreIndex (2069 ∷ 2070 ∷ 2071 ∷ []) no_covers ∷ []) (exit.OnRaise 2072 ([]) (Some (link 2 (2072 ∷ []))) (link 148 (2056 ∷ 2057 ∷ 2058 ∷ 2059 ∷ 2060 ∷ 2061 ∷ 2062 ∷ 2063 ∷ 2064 ∷ 2065 ∷ 2066 ∷ 2067 ∷ 2068 ∷ [])))
        ∷ block (2073 ∷ 2074 ∷ 2075 ∷ 2076 ∷ 2077 ∷ 2078 ∷ 2079 ∷ 2080 ∷ 2081 ∷ 2082 ∷ 2083 ∷ 2084 ∷ 2085 ∷ 2086 ∷ 2087 ∷ []) (does 2088 (row.Unpack 2 1) (2085 ∷ []) no_covers ∷ []) (exit.OnRaise 2088 ([]) (Some (link 2 (2088 ∷ []))) (link 149 (2073 ∷ 2074 ∷ 2075 ∷ 2076 ∷ 2077 ∷ 2078 ∷ 2079 ∷ 2080 ∷ 2081 ∷ 2082 ∷ 2083 ∷ 2084 ∷ 2085 ∷ 2086 ∷ 2087 ∷ 2088 ∷ [])))
        ∷ block (2089 ∷ 2090 ∷ 2091 ∷ 2092 ∷ 2093 ∷ 2094 ∷ 2095 ∷ 2096 ∷ 2097 ∷ 2098 ∷ 2099 ∷ 2100 ∷ 2101 ∷ 2102 ∷ []) (does 2103 (row.Word (pos 0)) ([]) no_covers ∷ []) (exit.OnRaise 2103 ([]) (Some (link 2 (2103 ∷ []))) (link 150 (2089 ∷ 2090 ∷ 2091 ∷ 2092 ∷ 2093 ∷ 2094 ∷ 2095 ∷ 2096 ∷ 2097 ∷ 2098 ∷ 2099 ∷ 2100 ∷ 2101 ∷ 2102 ∷ 2103 ∷ [])))
        ∷ block (2104 ∷ 2105 ∷ 2106 ∷ 2107 ∷ 2108 ∷ 2109 ∷ 2110 ∷ 2111 ∷ 2112 ∷ 2113 ∷ 2114 ∷ 2115 ∷ 2116 ∷ []) (does 2117 row.Copy (2106 ∷ []) no_covers ∷ []) (exit.OnRaise 2117 ([]) (Some (link 2 (2117 ∷ []))) (link 151 (2104 ∷ 2105 ∷ 2106 ∷ 2107 ∷ 2108 ∷ 2109 ∷ 2110 ∷ 2111 ∷ 2112 ∷ 2113 ∷ 2114 ∷ 2115 ∷ 2116 ∷ 2117 ∷ [])))
        ∷ block (2118 ∷ 2119 ∷ 2120 ∷ 2121 ∷ 2122 ∷ 2123 ∷ 2124 ∷ 2125 ∷ 2126 ∷ 2127 ∷ 2128 ∷ 2129 ∷ 2130 ∷ []) (does 2131 (row.Unpack 2 1) (2130 ∷ []) no_covers ∷ []) (exit.OnRaise 2131 ([]) (Some (link 2 (2131 ∷ []))) (link 152 (2118 ∷ 2119 ∷ 2120 ∷ 2121 ∷ 2122 ∷ 2123 ∷ 2124 ∷ 2125 ∷ 2126 ∷ 2127 ∷ 2128 ∷ 2129 ∷ 2130 ∷ [])))
        ∷ block (2132 ∷ 2133 ∷ 2134 ∷ 2135 ∷ 2136 ∷ 2137 ∷ 2138 ∷ 2139 ∷ 2140 ∷ 2141 ∷ 2142 ∷ 2143 ∷ 2144 ∷ 2145 ∷ 2146 ∷ []) (does 2147 (row.StoreAttr (codes "x")) (2145 ∷ 2146 ∷ []) no_covers ∷ []) (exit.OnRaise 2147 ([]) (Some (link 2 (2147 ∷ []))) (link 153 (2132 ∷ 2133 ∷ 2134 ∷ 2135 ∷ 2136 ∷ 2137 ∷ 2138 ∷ 2139 ∷ 2140 ∷ 2141 ∷ 2142 ∷ 2143 ∷ 2144 ∷ [])))
        ∷ block (2148 ∷ 2149 ∷ 2150 ∷ 2151 ∷ 2152 ∷ 2153 ∷ 2154 ∷ 2155 ∷ 2156 ∷ 2157 ∷ 2158 ∷ 2159 ∷ 2160 ∷ 2161 ∷ []) (does 2162 (row.Unpack 2 0) (2160 ∷ []) no_covers ∷ []) (exit.OnRaise 2162 ([]) (Some (link 2 (2162 ∷ []))) (link 154 (2148 ∷ 2149 ∷ 2150 ∷ 2151 ∷ 2152 ∷ 2153 ∷ 2154 ∷ 2155 ∷ 2156 ∷ 2157 ∷ 2158 ∷ 2159 ∷ 2160 ∷ 2161 ∷ 2162 ∷ [])))
        ∷ block (2163 ∷ 2164 ∷ 2165 ∷ 2166 ∷ 2167 ∷ 2168 ∷ 2169 ∷ 2170 ∷ 2171 ∷ 2172 ∷ 2173 ∷ 2174 ∷ 2175 ∷ []) (does 2176 row.Copy (2170 ∷ []) no_covers ∷ []) (exit.OnRaise 2176 ([]) (Some (link 2 (2176 ∷ []))) (link 155 (2163 ∷ 2164 ∷ 2165 ∷ 2166 ∷ 2167 ∷ 2168 ∷ 2169 ∷ 2170 ∷ 2171 ∷ 2172 ∷ 2173 ∷ 2174 ∷ 2175 ∷ 2176 ∷ [])))
        ∷ block (2177 ∷ 2178 ∷ 2179 ∷ 2180 ∷ 2181 ∷ 2182 ∷ 2183 ∷ 2184 ∷ 2185 ∷ 2186 ∷ 2187 ∷ 2188 ∷ 2189 ∷ []) (does 2190 (row.Unpack 2 0) (2189 ∷ []) no_covers ∷ []) (exit.OnRaise 2190 ([]) (Some (link 2 (2190 ∷ []))) (link 156 (2177 ∷ 2178 ∷ 2179 ∷ 2180 ∷ 2181 ∷ 2182 ∷ 2183 ∷ 2184 ∷ 2185 ∷ 2186 ∷ 2187 ∷ 2188 ∷ 2189 ∷ [])))
        ∷ block (2191 ∷ 2192 ∷ 2193 ∷ 2194 ∷ 2195 ∷ 2196 ∷ 2197 ∷ 2198 ∷ 2199 ∷ 2200 ∷ 2201 ∷ 2202 ∷ 2203 ∷ []) (does 2204 row.Copy (2203 ∷ []) no_covers ∷ []) (exit.OnRaise 2204 ([]) (Some (link 2 (2204 ∷ []))) (link 157 (2191 ∷ 2192 ∷ 2193 ∷ 2194 ∷ 2195 ∷ 2196 ∷ 2197 ∷ 2198 ∷ 2199 ∷ 2200 ∷ 2201 ∷ 2202 ∷ 2203 ∷ [])))
        ∷ block (2205 ∷ 2206 ∷ 2207 ∷ 2208 ∷ 2209 ∷ 2210 ∷ 2211 ∷ 2212 ∷ 2213 ∷ 2214 ∷ 2215 ∷ 2216 ∷ []) (does 2217 row.Copy (2205 ∷ []) no_covers ∷ []) (exit.OnRaise 2217 ([]) (Some (link 2 (2217 ∷ []))) (link 158 (2205 ∷ 2206 ∷ 2207 ∷ 2208 ∷ 2209 ∷ 2210 ∷ 2211 ∷ 2212 ∷ 2213 ∷ 2214 ∷ 2215 ∷ 2216 ∷ 2217 ∷ [])))
        ∷ block (2218 ∷ 2219 ∷ 2220 ∷ 2221 ∷ 2222 ∷ 2223 ∷ 2224 ∷ 2225 ∷ 2226 ∷ 2227 ∷ 2228 ∷ 2229 ∷ 2230 ∷ 2231 ∷ []) (does 2232 (row.StoreAttr (codes "x")) (2230 ∷ 2231 ∷ []) no_covers ∷ []) (exit.OnRaise 2232 ([]) (Some (link 2 (2232 ∷ []))) (link 159 (2218 ∷ 2219 ∷ 2220 ∷ 2221 ∷ 2222 ∷ 2223 ∷ 2224 ∷ 2225 ∷ 2226 ∷ 2227 ∷ 2228 ∷ 2229 ∷ [])))
        ∷ block (2233 ∷ 2234 ∷ 2235 ∷ 2236 ∷ 2237 ∷ 2238 ∷ 2239 ∷ 2240 ∷ 2241 ∷ 2242 ∷ 2243 ∷ 2244 ∷ 2245 ∷ 2246 ∷ 2247 ∷ []) (does 2248 (row.Binary bin.Sub None) (2246 ∷ 2247 ∷ []) no_covers ∷ []) (exit.OnRaise 2248 ([]) (Some (link 2 (2248 ∷ []))) (link 160 (2233 ∷ 2234 ∷ 2235 ∷ 2236 ∷ 2237 ∷ 2238 ∷ 2239 ∷ 2240 ∷ 2241 ∷ 2242 ∷ 2243 ∷ 2244 ∷ 2245 ∷ 2248 ∷ [])))
        ∷ block (2249 ∷ 2250 ∷ 2251 ∷ 2252 ∷ 2253 ∷ 2254 ∷ 2255 ∷ 2256 ∷ 2257 ∷ 2258 ∷ 2259 ∷ 2260 ∷ 2261 ∷ 2262 ∷ []) (does 2263 (row.Word (pos 1)) ([]) no_covers ∷ []) (exit.OnRaise 2263 ([]) (Some (link 2 (2263 ∷ []))) (link 161 (2249 ∷ 2250 ∷ 2251 ∷ 2252 ∷ 2253 ∷ 2254 ∷ 2255 ∷ 2256 ∷ 2257 ∷ 2258 ∷ 2259 ∷ 2260 ∷ 2261 ∷ 2262 ∷ 2263 ∷ [])))
        ∷ block (2264 ∷ 2265 ∷ 2266 ∷ 2267 ∷ 2268 ∷ 2269 ∷ 2270 ∷ 2271 ∷ 2272 ∷ 2273 ∷ 2274 ∷ 2275 ∷ 2276 ∷ []) (does 2277 (row.Attr (codes "x")) (2276 ∷ []) no_covers ∷ []) (exit.OnRaise 2277 ([]) (Some (link 2 (2277 ∷ []))) (link 162 (2264 ∷ 2265 ∷ 2266 ∷ 2267 ∷ 2268 ∷ 2269 ∷ 2270 ∷ 2271 ∷ 2272 ∷ 2273 ∷ 2274 ∷ 2275 ∷ 2276 ∷ 2277 ∷ [])))
        ∷ block (2278 ∷ 2279 ∷ 2280 ∷ 2281 ∷ 2282 ∷ 2283 ∷ 2284 ∷ 2285 ∷ 2286 ∷ 2287 ∷ 2288 ∷ 2289 ∷ []) (does 2290 row.Copy (2285 ∷ []) no_covers ∷ []) (exit.OnRaise 2290 ([]) (Some (link 2 (2290 ∷ []))) (link 163 (2278 ∷ 2279 ∷ 2280 ∷ 2281 ∷ 2282 ∷ 2283 ∷ 2284 ∷ 2285 ∷ 2286 ∷ 2287 ∷ 2288 ∷ 2289 ∷ 2290 ∷ [])))
        ∷ block (2291 ∷ 2292 ∷ 2293 ∷ 2294 ∷ 2295 ∷ 2296 ∷ 2297 ∷ 2298 ∷ 2299 ∷ 2300 ∷ 2301 ∷ 2302 ∷ 2303 ∷ []) (does 2304 row.Copy (2303 ∷ []) no_covers ∷ []) (exit.OnRaise 2304 ([]) (Some (link 2 (2304 ∷ []))) (link 164 (2291 ∷ 2292 ∷ 2293 ∷ 2294 ∷ 2295 ∷ 2296 ∷ 2297 ∷ 2304 ∷ 2299 ∷ 2300 ∷ 2301 ∷ 2302 ∷ [])))
        ∷ block (2305 ∷ 2306 ∷ 2307 ∷ 2308 ∷ 2309 ∷ 2310 ∷ 2311 ∷ 2312 ∷ 2313 ∷ 2314 ∷ 2315 ∷ 2316 ∷ 2317 ∷ []) (does 2318 (row.New 13) (2317 ∷ []) no_covers ∷ []) (exit.OnRaise 2318 ([]) (Some (link 2 (2318 ∷ []))) (link 165 (2305 ∷ 2306 ∷ 2307 ∷ 2308 ∷ 2309 ∷ 2310 ∷ 2311 ∷ 2312 ∷ 2313 ∷ 2314 ∷ 2315 ∷ 2316 ∷ 2318 ∷ [])))
        ∷ block (2319 ∷ 2320 ∷ 2321 ∷ 2322 ∷ 2323 ∷ 2324 ∷ 2325 ∷ 2326 ∷ 2327 ∷ 2328 ∷ 2329 ∷ 2330 ∷ []) (does 2331 (row.Constant (const.Word (pos 5))) ([]) no_covers ∷ []) (exit.OnRaise 2331 ([]) (Some (link 2 (2331 ∷ []))) (link 166 (2319 ∷ 2320 ∷ 2321 ∷ 2322 ∷ 2323 ∷ 2324 ∷ 2325 ∷ 2326 ∷ 2327 ∷ 2328 ∷ 2329 ∷ 2330 ∷ 2331 ∷ [])))
        ∷ block (2332 ∷ 2333 ∷ 2334 ∷ 2335 ∷ 2336 ∷ 2337 ∷ 2338 ∷ 2339 ∷ 2340 ∷ 2341 ∷ 2342 ∷ 2343 ∷ 2344 ∷ 2345 ∷ []) [] (exit.Goto (link 196 (2332 ∷ 2333 ∷ 2334 ∷ 2335 ∷ 2336 ∷ 2337 ∷ 2338 ∷ 2339 ∷ 2340 ∷ 2341 ∷ 2342 ∷ 2343 ∷ 2344 ∷ 2345 ∷ [])))
        ∷ block (2346 ∷ 2347 ∷ 2348 ∷ 2349 ∷ 2350 ∷ 2351 ∷ 2352 ∷ 2353 ∷ 2354 ∷ 2355 ∷ 2356 ∷ 2357 ∷ 2358 ∷ 2359 ∷ []) (does 2360 (row.Advance None) (2358 ∷ 2359 ∷ []) no_covers ∷ []) (exit.OnRaise 2360 ([]) (Some (link 2 (2360 ∷ []))) (link 168 (2346 ∷ 2347 ∷ 2348 ∷ 2349 ∷ 2350 ∷ 2351 ∷ 2352 ∷ 2353 ∷ 2354 ∷ 2355 ∷ 2356 ∷ 2357 ∷ 2358 ∷ 2360 ∷ [])))
        ∷ block (2361 ∷ 2362 ∷ 2363 ∷ 2364 ∷ 2365 ∷ 2366 ∷ 2367 ∷ 2368 ∷ 2369 ∷ 2370 ∷ 2371 ∷ 2372 ∷ 2373 ∷ 2374 ∷ []) [] (exit.Goto (link 167 (2361 ∷ 2362 ∷ 2363 ∷ 2364 ∷ 2365 ∷ 2366 ∷ 2367 ∷ 2368 ∷ 2369 ∷ 2370 ∷ 2371 ∷ 2372 ∷ [])))
        ∷ block (2375 ∷ 2376 ∷ 2377 ∷ 2378 ∷ 2379 ∷ 2380 ∷ 2381 ∷ 2382 ∷ 2383 ∷ 2384 ∷ 2385 ∷ 2386 ∷ 2387 ∷ 2388 ∷ []) [] (exit.Goto (link 169 (2375 ∷ 2376 ∷ 2377 ∷ 2378 ∷ 2379 ∷ 2380 ∷ 2381 ∷ 2382 ∷ 2383 ∷ 2384 ∷ 2385 ∷ 2386 ∷ 2387 ∷ 2388 ∷ [])))
        ∷ block (2389 ∷ 2390 ∷ 2391 ∷ 2392 ∷ 2393 ∷ 2394 ∷ 2395 ∷ 2396 ∷ 2397 ∷ 2398 ∷ 2399 ∷ 2400 ∷ 2401 ∷ 2402 ∷ 2403 ∷ []) (does 2404 row.DropNone (2394 ∷ []) no_covers ∷ []) (exit.OnRaise 2404 ([]) (Some (link 2 (2404 ∷ []))) (link 170 (2389 ∷ 2390 ∷ 2391 ∷ 2392 ∷ 2393 ∷ 2404 ∷ 2395 ∷ 2396 ∷ 2397 ∷ 2398 ∷ 2399 ∷ 2400 ∷ 2401 ∷ 2402 ∷ [])))
        ∷ block (2405 ∷ 2406 ∷ 2407 ∷ 2408 ∷ 2409 ∷ 2410 ∷ 2411 ∷ 2412 ∷ 2413 ∷ 2414 ∷ 2415 ∷ 2416 ∷ 2417 ∷ 2418 ∷ 2419 ∷ []) (does 2420 row.FalseNone (2410 ∷ []) no_covers ∷ []) (exit.OnRaise 2420 ([]) (Some (link 2 (2420 ∷ []))) (link 171 (2405 ∷ 2406 ∷ 2407 ∷ 2408 ∷ 2409 ∷ 2420 ∷ 2411 ∷ 2412 ∷ 2413 ∷ 2414 ∷ 2415 ∷ 2416 ∷ 2417 ∷ 2418 ∷ [])))
        ∷ block (2421 ∷ 2422 ∷ 2423 ∷ 2424 ∷ 2425 ∷ 2426 ∷ 2427 ∷ 2428 ∷ 2429 ∷ 2430 ∷ 2431 ∷ 2432 ∷ 2433 ∷ 2434 ∷ 2435 ∷ 2436 ∷ []) [] (exit.If 2436 (link 172 (2421 ∷ 2422 ∷ 2423 ∷ 2424 ∷ 2425 ∷ 2426 ∷ 2427 ∷ 2428 ∷ 2429 ∷ 2430 ∷ 2431 ∷ 2432 ∷ 2433 ∷ 2434 ∷ 2435 ∷ [])) (link 173 (2421 ∷ 2422 ∷ 2423 ∷ 2424 ∷ 2425 ∷ 2426 ∷ 2427 ∷ 2428 ∷ 2429 ∷ 2430 ∷ 2431 ∷ 2432 ∷ 2433 ∷ 2434 ∷ 2435 ∷ [])))
        ∷ block (2437 ∷ 2438 ∷ 2439 ∷ 2440 ∷ 2441 ∷ 2442 ∷ 2443 ∷ 2444 ∷ 2445 ∷ 2446 ∷ 2447 ∷ 2448 ∷ 2449 ∷ 2450 ∷ 2451 ∷ []) (does 2452 row.Truth (2451 ∷ []) no_covers ∷ []) (exit.OnRaise 2452 ([]) (Some (link 2 (2452 ∷ []))) (link 174 (2437 ∷ 2438 ∷ 2439 ∷ 2440 ∷ 2441 ∷ 2442 ∷ 2443 ∷ 2444 ∷ 2445 ∷ 2446 ∷ 2447 ∷ 2448 ∷ 2449 ∷ 2450 ∷ 2451 ∷ 2452 ∷ [])))
        ∷ block (2453 ∷ 2454 ∷ 2455 ∷ 2456 ∷ 2457 ∷ 2458 ∷ 2459 ∷ 2460 ∷ 2461 ∷ 2462 ∷ 2463 ∷ 2464 ∷ 2465 ∷ 2466 ∷ []) (does 2467 row.Copy (2458 ∷ []) no_covers ∷ []) (exit.OnRaise 2467 ([]) (Some (link 2 (2467 ∷ []))) (link 175 (2453 ∷ 2454 ∷ 2455 ∷ 2456 ∷ 2457 ∷ 2458 ∷ 2459 ∷ 2460 ∷ 2461 ∷ 2462 ∷ 2463 ∷ 2464 ∷ 2465 ∷ 2466 ∷ 2467 ∷ [])))
        ∷ block (2468 ∷ 2469 ∷ 2470 ∷ 2471 ∷ 2472 ∷ 2473 ∷ 2474 ∷ 2475 ∷ 2476 ∷ 2477 ∷ 2478 ∷ 2479 ∷ 2480 ∷ 2481 ∷ 2482 ∷ []) (does 2483 row.DropNone (2474 ∷ []) no_covers ∷ []) (exit.OnRaise 2483 ([]) (Some (link 2 (2483 ∷ []))) (link 170 (2468 ∷ 2469 ∷ 2470 ∷ 2471 ∷ 2472 ∷ 2473 ∷ 2483 ∷ 2475 ∷ 2476 ∷ 2477 ∷ 2478 ∷ 2479 ∷ 2480 ∷ 2481 ∷ [])))
        ∷ block (2484 ∷ 2485 ∷ 2486 ∷ 2487 ∷ 2488 ∷ 2489 ∷ 2490 ∷ 2491 ∷ 2492 ∷ 2493 ∷ 2494 ∷ 2495 ∷ 2496 ∷ 2497 ∷ 2498 ∷ []) (does 2499 row.FalseNone (2490 ∷ []) no_covers ∷ []) (exit.OnRaise 2499 ([]) (Some (link 2 (2499 ∷ []))) (link 176 (2484 ∷ 2485 ∷ 2486 ∷ 2487 ∷ 2488 ∷ 2489 ∷ 2499 ∷ 2491 ∷ 2492 ∷ 2493 ∷ 2494 ∷ 2495 ∷ 2496 ∷ 2497 ∷ [])))
        ∷ block (2500 ∷ 2501 ∷ 2502 ∷ 2503 ∷ 2504 ∷ 2505 ∷ 2506 ∷ 2507 ∷ 2508 ∷ 2509 ∷ 2510 ∷ 2511 ∷ 2512 ∷ 2513 ∷ 2514 ∷ 2515 ∷ []) [] (exit.If 2515 (link 177 (2500 ∷ 2501 ∷ 2502 ∷ 2503 ∷ 2504 ∷ 2505 ∷ 2506 ∷ 2507 ∷ 2508 ∷ 2509 ∷ 2510 ∷ 2511 ∷ 2512 ∷ 2513 ∷ 2514 ∷ [])) (link 178 (2500 ∷ 2501 ∷ 2502 ∷ 2503 ∷ 2504 ∷ 2505 ∷ 2506 ∷ 2507 ∷ 2508 ∷ 2509 ∷ 2510 ∷ 2511 ∷ 2512 ∷ 2513 ∷ 2514 ∷ [])))
        ∷ block (2516 ∷ 2517 ∷ 2518 ∷ 2519 ∷ 2520 ∷ 2521 ∷ 2522 ∷ 2523 ∷ 2524 ∷ 2525 ∷ 2526 ∷ 2527 ∷ 2528 ∷ 2529 ∷ 2530 ∷ []) (does 2531 row.Truth (2530 ∷ []) no_covers ∷ []) (exit.OnRaise 2531 ([]) (Some (link 2 (2531 ∷ []))) (link 179 (2516 ∷ 2517 ∷ 2518 ∷ 2519 ∷ 2520 ∷ 2521 ∷ 2522 ∷ 2523 ∷ 2524 ∷ 2525 ∷ 2526 ∷ 2527 ∷ 2528 ∷ 2529 ∷ 2530 ∷ 2531 ∷ [])))
        ∷ block (2532 ∷ 2533 ∷ 2534 ∷ 2535 ∷ 2536 ∷ 2537 ∷ 2538 ∷ 2539 ∷ 2540 ∷ 2541 ∷ 2542 ∷ 2543 ∷ 2544 ∷ 2545 ∷ []) (does 2546 row.Copy (2538 ∷ []) no_covers ∷ []) (exit.OnRaise 2546 ([]) (Some (link 2 (2546 ∷ []))) (link 180 (2532 ∷ 2533 ∷ 2534 ∷ 2535 ∷ 2536 ∷ 2537 ∷ 2538 ∷ 2539 ∷ 2540 ∷ 2541 ∷ 2542 ∷ 2543 ∷ 2544 ∷ 2545 ∷ 2546 ∷ [])))
        ∷ block (2547 ∷ 2548 ∷ 2549 ∷ 2550 ∷ 2551 ∷ 2552 ∷ 2553 ∷ 2554 ∷ 2555 ∷ 2556 ∷ 2557 ∷ 2558 ∷ 2559 ∷ 2560 ∷ 2561 ∷ []) (does 2562 row.DropNone (2552 ∷ []) no_covers ∷ []) (exit.OnRaise 2562 ([]) (Some (link 2 (2562 ∷ []))) (link 181 (2547 ∷ 2548 ∷ 2549 ∷ 2550 ∷ 2551 ∷ 2562 ∷ 2553 ∷ 2554 ∷ 2555 ∷ 2556 ∷ 2557 ∷ 2558 ∷ 2559 ∷ 2560 ∷ [])))
        ∷ block (2563 ∷ 2564 ∷ 2565 ∷ 2566 ∷ 2567 ∷ 2568 ∷ 2569 ∷ 2570 ∷ 2571 ∷ 2572 ∷ 2573 ∷ 2574 ∷ 2575 ∷ 2576 ∷ 2577 ∷ []) (does 2578 row.FalseNone (2568 ∷ []) no_covers ∷ []) (exit.OnRaise 2578 ([]) (Some (link 2 (2578 ∷ []))) (link 170 (2563 ∷ 2564 ∷ 2565 ∷ 2566 ∷ 2567 ∷ 2578 ∷ 2569 ∷ 2570 ∷ 2571 ∷ 2572 ∷ 2573 ∷ 2574 ∷ 2575 ∷ 2576 ∷ [])))
        ∷ block (2579 ∷ 2580 ∷ 2581 ∷ 2582 ∷ 2583 ∷ 2584 ∷ 2585 ∷ 2586 ∷ 2587 ∷ 2588 ∷ 2589 ∷ 2590 ∷ 2591 ∷ 2592 ∷ 2593 ∷ 2594 ∷ []) [] (exit.If 2594 (link 182 (2579 ∷ 2580 ∷ 2581 ∷ 2582 ∷ 2583 ∷ 2584 ∷ 2585 ∷ 2586 ∷ 2587 ∷ 2588 ∷ 2589 ∷ 2590 ∷ 2591 ∷ 2592 ∷ 2593 ∷ [])) (link 183 (2579 ∷ 2580 ∷ 2581 ∷ 2582 ∷ 2583 ∷ 2584 ∷ 2585 ∷ 2586 ∷ 2587 ∷ 2588 ∷ 2589 ∷ 2590 ∷ 2591 ∷ 2592 ∷ 2593 ∷ [])))
        ∷ block (2595 ∷ 2596 ∷ 2597 ∷ 2598 ∷ 2599 ∷ 2600 ∷ 2601 ∷ 2602 ∷ 2603 ∷ 2604 ∷ 2605 ∷ 2606 ∷ 2607 ∷ 2608 ∷ 2609 ∷ []) (does 2610 row.Truth (2609 ∷ []) no_covers ∷ []) (exit.OnRaise 2610 ([]) (Some (link 2 (2610 ∷ []))) (link 184 (2595 ∷ 2596 ∷ 2597 ∷ 2598 ∷ 2599 ∷ 2600 ∷ 2601 ∷ 2602 ∷ 2603 ∷ 2604 ∷ 2605 ∷ 2606 ∷ 2607 ∷ 2608 ∷ 2609 ∷ 2610 ∷ [])))
        ∷ block (2611 ∷ 2612 ∷ 2613 ∷ 2614 ∷ 2615 ∷ 2616 ∷ 2617 ∷ 2618 ∷ 2619 ∷ 2620 ∷ 2621 ∷ 2622 ∷ 2623 ∷ 2624 ∷ []) (does 2625 row.Copy (2616 ∷ []) no_covers ∷ []) (exit.OnRaise 2625 ([]) (Some (link 2 (2625 ∷ []))) (link 185 (2611 ∷ 2612 ∷ 2613 ∷ 2614 ∷ 2615 ∷ 2616 ∷ 2617 ∷ 2618 ∷ 2619 ∷ 2620 ∷ 2621 ∷ 2622 ∷ 2623 ∷ 2624 ∷ 2625 ∷ [])))
        ∷ block (2626 ∷ 2627 ∷ 2628 ∷ 2629 ∷ 2630 ∷ 2631 ∷ 2632 ∷ 2633 ∷ 2634 ∷ 2635 ∷ 2636 ∷ 2637 ∷ 2638 ∷ 2639 ∷ 2640 ∷ []) [] (exit.Goto (link 186 (2626 ∷ 2627 ∷ 2628 ∷ 2629 ∷ 2630 ∷ 2631 ∷ 2632 ∷ 2633 ∷ 2634 ∷ 2635 ∷ 2636 ∷ 2637 ∷ 2638 ∷ 2639 ∷ [])))
        ∷ block (2641 ∷ 2642 ∷ 2643 ∷ 2644 ∷ 2645 ∷ 2646 ∷ 2647 ∷ 2648 ∷ 2649 ∷ 2650 ∷ 2651 ∷ 2652 ∷ 2653 ∷ 2654 ∷ 2655 ∷ 2656 ∷ []) (does 2657 row.Copy (2656 ∷ []) no_covers ∷ []) (exit.OnRaise 2657 ([]) (Some (link 2 (2657 ∷ []))) (link 187 (2641 ∷ 2642 ∷ 2643 ∷ 2644 ∷ 2645 ∷ 2646 ∷ 2657 ∷ 2648 ∷ 2649 ∷ 2650 ∷ 2651 ∷ 2652 ∷ 2653 ∷ 2654 ∷ 2655 ∷ [])))
        ∷ block (2658 ∷ 2659 ∷ 2660 ∷ 2661 ∷ 2662 ∷ 2663 ∷ 2664 ∷ 2665 ∷ 2666 ∷ 2667 ∷ 2668 ∷ 2669 ∷ 2670 ∷ 2671 ∷ 2672 ∷ []) (does 2673 (row.Unpack 2 1) (2672 ∷ []) no_covers ∷ []) (exit.OnRaise 2673 ([]) (Some (link 2 (2673 ∷ []))) (link 188 (2658 ∷ 2659 ∷ 2660 ∷ 2661 ∷ 2662 ∷ 2663 ∷ 2664 ∷ 2665 ∷ 2666 ∷ 2667 ∷ 2668 ∷ 2669 ∷ 2670 ∷ 2671 ∷ 2672 ∷ 2673 ∷ [])))
        ∷ block (2674 ∷ 2675 ∷ 2676 ∷ 2677 ∷ 2678 ∷ 2679 ∷ 2680 ∷ 2681 ∷ 2682 ∷ 2683 ∷ 2684 ∷ 2685 ∷ 2686 ∷ 2687 ∷ 2688 ∷ 2689 ∷ []) (does 2690 row.Copy (2689 ∷ []) no_covers ∷ []) (exit.OnRaise 2690 ([]) (Some (link 2 (2690 ∷ []))) (link 189 (2674 ∷ 2675 ∷ 2676 ∷ 2677 ∷ 2678 ∷ 2690 ∷ 2680 ∷ 2681 ∷ 2682 ∷ 2683 ∷ 2684 ∷ 2685 ∷ 2686 ∷ 2687 ∷ 2688 ∷ [])))
        ∷ block (2691 ∷ 2692 ∷ 2693 ∷ 2694 ∷ 2695 ∷ 2696 ∷ 2697 ∷ 2698 ∷ 2699 ∷ 2700 ∷ 2701 ∷ 2702 ∷ 2703 ∷ 2704 ∷ 2705 ∷ []) (does 2706 (row.Unpack 2 0) (2705 ∷ []) no_covers ∷ []) (exit.OnRaise 2706 ([]) (Some (link 2 (2706 ∷ []))) (link 190 (2691 ∷ 2692 ∷ 2693 ∷ 2694 ∷ 2695 ∷ 2696 ∷ 2697 ∷ 2698 ∷ 2699 ∷ 2700 ∷ 2701 ∷ 2702 ∷ 2703 ∷ 2704 ∷ 2705 ∷ 2706 ∷ [])))
        ∷ block (2707 ∷ 2708 ∷ 2709 ∷ 2710 ∷ 2711 ∷ 2712 ∷ 2713 ∷ 2714 ∷ 2715 ∷ 2716 ∷ 2717 ∷ 2718 ∷ 2719 ∷ 2720 ∷ 2721 ∷ []) (does 2722 row.Copy (2721 ∷ []) no_covers ∷ []) (exit.OnRaise 2722 ([]) (Some (link 2 (2722 ∷ []))) (link 191 (2707 ∷ 2708 ∷ 2709 ∷ 2710 ∷ 2711 ∷ 2712 ∷ 2713 ∷ 2714 ∷ 2715 ∷ 2716 ∷ 2717 ∷ 2718 ∷ 2719 ∷ 2720 ∷ 2721 ∷ [])))
        ∷ block (2723 ∷ 2724 ∷ 2725 ∷ 2726 ∷ 2727 ∷ 2728 ∷ 2729 ∷ 2730 ∷ 2731 ∷ 2732 ∷ 2733 ∷ 2734 ∷ 2735 ∷ 2736 ∷ []) (does 2737 (row.Item None) (2735 ∷ 2736 ∷ []) no_covers ∷ []) (exit.OnRaise 2737 ([]) (Some (link 2 (2737 ∷ []))) (link 192 (2723 ∷ 2724 ∷ 2725 ∷ 2726 ∷ 2727 ∷ 2728 ∷ 2729 ∷ 2730 ∷ 2731 ∷ 2732 ∷ 2733 ∷ 2734 ∷ 2735 ∷ 2736 ∷ 2737 ∷ [])))
        ∷ block (2738 ∷ 2739 ∷ 2740 ∷ 2741 ∷ 2742 ∷ 2743 ∷ 2744 ∷ 2745 ∷ 2746 ∷ 2747 ∷ 2748 ∷ 2749 ∷ 2750 ∷ 2751 ∷ []) (does 2752 row.Turn ([]) no_covers ∷ []) (exit.OnRaise 2752 ([]) (Some (link 2 (2752 ∷ []))) (link 193 (2738 ∷ 2739 ∷ 2740 ∷ 2741 ∷ 2742 ∷ 2743 ∷ 2744 ∷ 2745 ∷ 2746 ∷ 2747 ∷ 2748 ∷ 2749 ∷ 2750 ∷ 2751 ∷ [])))
        ∷ block (2753 ∷ 2754 ∷ 2755 ∷ 2756 ∷ 2757 ∷ 2758 ∷ 2759 ∷ 2760 ∷ 2761 ∷ 2762 ∷ 2763 ∷ 2764 ∷ 2765 ∷ 2766 ∷ 2767 ∷ []) [] (exit.If 2767 (link 194 (2753 ∷ 2754 ∷ 2755 ∷ 2756 ∷ 2757 ∷ 2758 ∷ 2759 ∷ 2760 ∷ 2761 ∷ 2762 ∷ 2763 ∷ 2764 ∷ 2765 ∷ 2766 ∷ [])) (link 167 (2753 ∷ 2754 ∷ 2755 ∷ 2756 ∷ 2757 ∷ 2758 ∷ 2759 ∷ 2760 ∷ 2761 ∷ 2762 ∷ 2763 ∷ 2764 ∷ [])))
        ∷ block (2768 ∷ 2769 ∷ 2770 ∷ 2771 ∷ 2772 ∷ 2773 ∷ 2774 ∷ 2775 ∷ 2776 ∷ 2777 ∷ 2778 ∷ 2779 ∷ 2780 ∷ 2781 ∷ []) (does 2782 (row.HasItem None) (2780 ∷ 2781 ∷ []) no_covers ∷ []) (exit.OnRaise 2782 ([]) (Some (link 2 (2782 ∷ []))) (link 195 (2768 ∷ 2769 ∷ 2770 ∷ 2771 ∷ 2772 ∷ 2773 ∷ 2774 ∷ 2775 ∷ 2776 ∷ 2777 ∷ 2778 ∷ 2779 ∷ 2780 ∷ 2781 ∷ 2782 ∷ [])))
        ∷ block (2783 ∷ 2784 ∷ 2785 ∷ 2786 ∷ 2787 ∷ 2788 ∷ 2789 ∷ 2790 ∷ 2791 ∷ 2792 ∷ 2793 ∷ 2794 ∷ 2795 ∷ []) (does 2796 (row.Word (pos 0)) ([]) no_covers ∷ []) (exit.OnRaise 2796 ([]) (Some (link 2 (2796 ∷ []))) (link 168 (2783 ∷ 2784 ∷ 2785 ∷ 2786 ∷ 2787 ∷ 2788 ∷ 2789 ∷ 2790 ∷ 2791 ∷ 2792 ∷ 2793 ∷ 2794 ∷ 2795 ∷ 2796 ∷ [])))
        ∷ block (2797 ∷ 2798 ∷ 2799 ∷ 2800 ∷ 2801 ∷ 2802 ∷ 2803 ∷ 2804 ∷ 2805 ∷ 2806 ∷ 2807 ∷ 2808 ∷ 2809 ∷ []) (does 2810 (row.Walk 2) (2809 ∷ []) no_covers ∷ []) (exit.OnRaise 2810 ([]) (Some (link 2 (2810 ∷ []))) (link 197 (2797 ∷ 2798 ∷ 2799 ∷ 2800 ∷ 2801 ∷ 2802 ∷ 2803 ∷ 2804 ∷ 2805 ∷ 2806 ∷ 2807 ∷ 2808 ∷ 2810 ∷ [])))
        ∷ block (2811 ∷ 2812 ∷ 2813 ∷ 2814 ∷ 2815 ∷ 2816 ∷ 2817 ∷ 2818 ∷ 2819 ∷ 2820 ∷ 2821 ∷ 2822 ∷ []) (does 2823 row.Copy (2811 ∷ []) no_covers ∷ []) (exit.OnRaise 2823 ([]) (Some (link 2 (2823 ∷ []))) (link 198 (2811 ∷ 2812 ∷ 2813 ∷ 2814 ∷ 2815 ∷ 2816 ∷ 2817 ∷ 2818 ∷ 2819 ∷ 2820 ∷ 2821 ∷ 2822 ∷ 2823 ∷ [])))
        ∷ block (2824 ∷ 2825 ∷ 2826 ∷ 2827 ∷ 2828 ∷ 2829 ∷ 2830 ∷ 2831 ∷ 2832 ∷ 2833 ∷ 2834 ∷ 2835 ∷ 2836 ∷ 2837 ∷ []) [] (exit.Goto (link 212 (2824 ∷ 2825 ∷ 2826 ∷ 2827 ∷ 2828 ∷ 2829 ∷ 2830 ∷ 2831 ∷ 2832 ∷ 2833 ∷ 2834 ∷ 2835 ∷ 2836 ∷ 2837 ∷ [])))
        ∷ block (2838 ∷ 2839 ∷ 2840 ∷ 2841 ∷ 2842 ∷ 2843 ∷ 2844 ∷ 2845 ∷ 2846 ∷ 2847 ∷ 2848 ∷ 2849 ∷ 2850 ∷ 2851 ∷ []) (does 2852 (row.Advance None) (2850 ∷ 2851 ∷ []) no_covers ∷ []) (exit.OnRaise 2852 ([]) (Some (link 2 (2852 ∷ []))) (link 200 (2838 ∷ 2839 ∷ 2840 ∷ 2841 ∷ 2842 ∷ 2843 ∷ 2844 ∷ 2845 ∷ 2846 ∷ 2847 ∷ 2848 ∷ 2849 ∷ 2850 ∷ 2852 ∷ [])))
        ∷ block (2853 ∷ 2854 ∷ 2855 ∷ 2856 ∷ 2857 ∷ 2858 ∷ 2859 ∷ 2860 ∷ 2861 ∷ 2862 ∷ 2863 ∷ 2864 ∷ 2865 ∷ 2866 ∷ 2867 ∷ 2868 ∷ 2869 ∷ []) (does 2870 row.StoreIndex (2867 ∷ 2868 ∷ 2869 ∷ []) no_covers ∷ []) (exit.OnRaise 2870 ([]) (Some (link 2 (2870 ∷ []))) (link 201 (2853 ∷ 2854 ∷ 2855 ∷ 2856 ∷ 2857 ∷ 2858 ∷ 2859 ∷ 2860 ∷ 2861 ∷ 2862 ∷ 2863 ∷ 2864 ∷ 2865 ∷ 2866 ∷ [])))
        ∷ block (2871 ∷ 2872 ∷ 2873 ∷ 2874 ∷ 2875 ∷ 2876 ∷ 2877 ∷ 2878 ∷ 2879 ∷ 2880 ∷ 2881 ∷ 2882 ∷ 2883 ∷ 2884 ∷ 2885 ∷ 2886 ∷ 2887 ∷ 2888 ∷ []) (does 2889 row.AddTo (2887 ∷ 2888 ∷ []) no_covers ∷ []) (exit.OnRaise 2889 ([]) (Some (link 2 (2889 ∷ []))) (link 202 (2871 ∷ 2872 ∷ 2873 ∷ 2874 ∷ 2875 ∷ 2876 ∷ 2877 ∷ 2878 ∷ 2879 ∷ 2880 ∷ 2881 ∷ 2882 ∷ 2883 ∷ 2884 ∷ 2885 ∷ 2886 ∷ 2889 ∷ [])))
        ∷ block (2890 ∷ 2891 ∷ 2892 ∷ 2893 ∷ 2894 ∷ 2895 ∷ 2896 ∷ 2897 ∷ 2898 ∷ 2899 ∷ 2900 ∷ 2901 ∷ 2902 ∷ 2903 ∷ 2904 ∷ 2905 ∷ 2906 ∷ []) (does 2907 (row.Word (pos 1)) ([]) no_covers ∷ []) (exit.OnRaise 2907 ([]) (Some (link 2 (2907 ∷ []))) (link 203 (2890 ∷ 2891 ∷ 2892 ∷ 2893 ∷ 2894 ∷ 2895 ∷ 2896 ∷ 2897 ∷ 2898 ∷ 2899 ∷ 2900 ∷ 2901 ∷ 2902 ∷ 2903 ∷ 2904 ∷ 2905 ∷ 2906 ∷ 2907 ∷ [])))
        ∷ block (2908 ∷ 2909 ∷ 2910 ∷ 2911 ∷ 2912 ∷ 2913 ∷ 2914 ∷ 2915 ∷ 2916 ∷ 2917 ∷ 2918 ∷ 2919 ∷ 2920 ∷ 2921 ∷ 2922 ∷ 2923 ∷ []) (does 2924 (row.Index None) (2922 ∷ 2923 ∷ []) no_covers ∷ []) (exit.OnRaise 2924 ([]) (Some (link 2 (2924 ∷ []))) (link 204 (2908 ∷ 2909 ∷ 2910 ∷ 2911 ∷ 2912 ∷ 2913 ∷ 2914 ∷ 2915 ∷ 2916 ∷ 2917 ∷ 2918 ∷ 2919 ∷ 2920 ∷ 2921 ∷ 2922 ∷ 2923 ∷ 2924 ∷ [])))
        ∷ block (2925 ∷ 2926 ∷ 2927 ∷ 2928 ∷ 2929 ∷ 2930 ∷ 2931 ∷ 2932 ∷ 2933 ∷ 2934 ∷ 2935 ∷ 2936 ∷ 2937 ∷ 2938 ∷ 2939 ∷ []) (does 2940 row.Copy (2929 ∷ []) no_covers ∷ []) (exit.OnRaise 2940 ([]) (Some (link 2 (2940 ∷ []))) (link 205 (2925 ∷ 2926 ∷ 2927 ∷ 2928 ∷ 2929 ∷ 2930 ∷ 2931 ∷ 2932 ∷ 2933 ∷ 2934 ∷ 2935 ∷ 2936 ∷ 2937 ∷ 2938 ∷ 2939 ∷ 2940 ∷ [])))
        ∷ block (2941 ∷ 2942 ∷ 2943 ∷ 2944 ∷ 2945 ∷ 2946 ∷ 2947 ∷ 2948 ∷ 2949 ∷ 2950 ∷ 2951 ∷ 2952 ∷ 2953 ∷ 2954 ∷ []) (does 2955 row.Copy (2942 ∷ []) no_covers ∷ []) (exit.OnRaise 2955 ([]) (Some (link 2 (2955 ∷ []))) (link 206 (2941 ∷ 2942 ∷ 2943 ∷ 2944 ∷ 2945 ∷ 2946 ∷ 2947 ∷ 2948 ∷ 2949 ∷ 2950 ∷ 2951 ∷ 2952 ∷ 2953 ∷ 2954 ∷ 2955 ∷ [])))
        ∷ block (2956 ∷ 2957 ∷ 2958 ∷ 2959 ∷ 2960 ∷ 2961 ∷ 2962 ∷ 2963 ∷ 2964 ∷ 2965 ∷ 2966 ∷ 2967 ∷ 2968 ∷ 2969 ∷ 2970 ∷ []) (does 2971 row.Copy (2970 ∷ []) no_covers ∷ []) (exit.OnRaise 2971 ([]) (Some (link 2 (2971 ∷ []))) (link 207 (2956 ∷ 2957 ∷ 2958 ∷ 2959 ∷ 2971 ∷ 2961 ∷ 2962 ∷ 2963 ∷ 2964 ∷ 2965 ∷ 2966 ∷ 2967 ∷ 2968 ∷ 2969 ∷ [])))
        ∷ block (2972 ∷ 2973 ∷ 2974 ∷ 2975 ∷ 2976 ∷ 2977 ∷ 2978 ∷ 2979 ∷ 2980 ∷ 2981 ∷ 2982 ∷ 2983 ∷ 2984 ∷ 2985 ∷ []) (does 2986 (row.Item None) (2984 ∷ 2985 ∷ []) no_covers ∷ []) (exit.OnRaise 2986 ([]) (Some (link 2 (2986 ∷ []))) (link 208 (2972 ∷ 2973 ∷ 2974 ∷ 2975 ∷ 2976 ∷ 2977 ∷ 2978 ∷ 2979 ∷ 2980 ∷ 2981 ∷ 2982 ∷ 2983 ∷ 2984 ∷ 2985 ∷ 2986 ∷ [])))
        ∷ block (2987 ∷ 2988 ∷ 2989 ∷ 2990 ∷ 2991 ∷ 2992 ∷ 2993 ∷ 2994 ∷ 2995 ∷ 2996 ∷ 2997 ∷ 2998 ∷ 2999 ∷ 3000 ∷ []) (does 3001 row.Turn ([]) no_covers ∷ []) (exit.OnRaise 3001 ([]) (Some (link 2 (3001 ∷ []))) (link 209 (2987 ∷ 2988 ∷ 2989 ∷ 2990 ∷ 2991 ∷ 2992 ∷ 2993 ∷ 2994 ∷ 2995 ∷ 2996 ∷ 2997 ∷ 2998 ∷ 2999 ∷ 3000 ∷ [])))
        ∷ block (3002 ∷ 3003 ∷ 3004 ∷ 3005 ∷ 3006 ∷ 3007 ∷ 3008 ∷ 3009 ∷ 3010 ∷ 3011 ∷ 3012 ∷ 3013 ∷ 3014 ∷ 3015 ∷ 3016 ∷ []) [] (exit.If 3016 (link 210 (3002 ∷ 3003 ∷ 3004 ∷ 3005 ∷ 3006 ∷ 3007 ∷ 3008 ∷ 3009 ∷ 3010 ∷ 3011 ∷ 3012 ∷ 3013 ∷ 3014 ∷ 3015 ∷ [])) (link 199 (3002 ∷ 3003 ∷ 3004 ∷ 3005 ∷ 3006 ∷ 3007 ∷ 3008 ∷ 3009 ∷ 3010 ∷ 3011 ∷ 3012 ∷ 3013 ∷ [])))
        ∷ block (3017 ∷ 3018 ∷ 3019 ∷ 3020 ∷ 3021 ∷ 3022 ∷ 3023 ∷ 3024 ∷ 3025 ∷ 3026 ∷ 3027 ∷ 3028 ∷ 3029 ∷ 3030 ∷ []) (does 3031 (row.HasItem None) (3029 ∷ 3030 ∷ []) no_covers ∷ []) (exit.OnRaise 3031 ([]) (Some (link 2 (3031 ∷ []))) (link 211 (3017 ∷ 3018 ∷ 3019 ∷ 3020 ∷ 3021 ∷ 3022 ∷ 3023 ∷ 3024 ∷ 3025 ∷ 3026 ∷ 3027 ∷ 3028 ∷ 3029 ∷ 3030 ∷ 3031 ∷ [])))
        ∷ block (3032 ∷ 3033 ∷ 3034 ∷ 3035 ∷ 3036 ∷ 3037 ∷ 3038 ∷ 3039 ∷ 3040 ∷ 3041 ∷ 3042 ∷ 3043 ∷ 3044 ∷ []) (does 3045 (row.Word (pos 0)) ([]) no_covers ∷ []) (exit.OnRaise 3045 ([]) (Some (link 2 (3045 ∷ []))) (link 200 (3032 ∷ 3033 ∷ 3034 ∷ 3035 ∷ 3036 ∷ 3037 ∷ 3038 ∷ 3039 ∷ 3040 ∷ 3041 ∷ 3042 ∷ 3043 ∷ 3044 ∷ 3045 ∷ [])))
        ∷ block (3046 ∷ 3047 ∷ 3048 ∷ 3049 ∷ 3050 ∷ 3051 ∷ 3052 ∷ 3053 ∷ 3054 ∷ 3055 ∷ 3056 ∷ 3057 ∷ 3058 ∷ []) (does 3059 (row.Walk 2) (3058 ∷ []) no_covers ∷ []) (exit.OnRaise 3059 ([]) (Some (link 2 (3059 ∷ []))) (link 213 (3046 ∷ 3047 ∷ 3048 ∷ 3049 ∷ 3050 ∷ 3051 ∷ 3052 ∷ 3053 ∷ 3054 ∷ 3055 ∷ 3056 ∷ 3057 ∷ 3059 ∷ [])))
        ∷ block (3060 ∷ 3061 ∷ 3062 ∷ 3063 ∷ 3064 ∷ 3065 ∷ 3066 ∷ 3067 ∷ 3068 ∷ 3069 ∷ 3070 ∷ 3071 ∷ []) (does 3072 row.Copy (3061 ∷ []) no_covers ∷ []) (exit.OnRaise 3072 ([]) (Some (link 2 (3072 ∷ []))) (link 214 (3060 ∷ 3061 ∷ 3062 ∷ 3063 ∷ 3064 ∷ 3065 ∷ 3066 ∷ 3067 ∷ 3068 ∷ 3069 ∷ 3070 ∷ 3071 ∷ 3072 ∷ [])))
        ∷ block (3073 ∷ 3074 ∷ 3075 ∷ 3076 ∷ 3077 ∷ 3078 ∷ 3079 ∷ 3080 ∷ 3081 ∷ 3082 ∷ 3083 ∷ 3084 ∷ 3085 ∷ []) (does 3086 row.Copy (3085 ∷ []) no_covers ∷ []) (exit.OnRaise 3086 ([]) (Some (link 2 (3086 ∷ []))) (link 215 (3073 ∷ 3074 ∷ 3086 ∷ 3076 ∷ 3077 ∷ 3078 ∷ 3079 ∷ 3080 ∷ 3081 ∷ 3082 ∷ 3083 ∷ 3084 ∷ [])))
        ∷ block (3087 ∷ 3088 ∷ 3089 ∷ 3090 ∷ 3091 ∷ 3092 ∷ 3093 ∷ 3094 ∷ 3095 ∷ 3096 ∷ 3097 ∷ 3098 ∷ 3099 ∷ 3100 ∷ 3101 ∷ []) [] (exit.Goto (link 234 (3087 ∷ 3088 ∷ 3089 ∷ 3090 ∷ 3091 ∷ 3092 ∷ 3093 ∷ 3094 ∷ 3095 ∷ 3096 ∷ 3097 ∷ 3098 ∷ 3099 ∷ 3100 ∷ 3101 ∷ [])))
        ∷ block (3102 ∷ 3103 ∷ 3104 ∷ 3105 ∷ 3106 ∷ 3107 ∷ 3108 ∷ 3109 ∷ 3110 ∷ 3111 ∷ 3112 ∷ 3113 ∷ 3114 ∷ 3115 ∷ 3116 ∷ []) (does 3117 (row.Advance None) (3115 ∷ 3116 ∷ []) no_covers ∷ []) (exit.OnRaise 3117 ([]) (Some (link 2 (3117 ∷ []))) (link 217 (3102 ∷ 3103 ∷ 3104 ∷ 3105 ∷ 3106 ∷ 3107 ∷ 3108 ∷ 3109 ∷ 3110 ∷ 3111 ∷ 3112 ∷ 3113 ∷ 3114 ∷ 3115 ∷ 3117 ∷ [])))
        ∷ block (3118 ∷ 3119 ∷ 3120 ∷ 3121 ∷ 3122 ∷ 3123 ∷ 3124 ∷ 3125 ∷ 3126 ∷ 3127 ∷ 3128 ∷ 3129 ∷ 3130 ∷ 3131 ∷ 3132 ∷ 3133 ∷ []) (does 3134 row.AddItem (3130 ∷ 3133 ∷ []) no_covers ∷ []) (exit.OnRaise 3134 ([]) (Some (link 2 (3134 ∷ []))) (link 218 (3118 ∷ 3119 ∷ 3120 ∷ 3121 ∷ 3122 ∷ 3123 ∷ 3124 ∷ 3125 ∷ 3126 ∷ 3127 ∷ 3128 ∷ 3129 ∷ 3130 ∷ 3131 ∷ 3132 ∷ [])))
        ∷ block (3135 ∷ 3136 ∷ 3137 ∷ 3138 ∷ 3139 ∷ 3140 ∷ 3141 ∷ 3142 ∷ 3143 ∷ 3144 ∷ 3145 ∷ 3146 ∷ 3147 ∷ 3148 ∷ 3149 ∷ 3150 ∷ 3151 ∷ []) (does 3152 (row.Binary bin.Mul (Some 1)) (3150 ∷ 3151 ∷ []) no_covers ∷ []) (exit.OnRaise 3152 ([]) (Some (link 2 (3152 ∷ []))) (link 219 (3135 ∷ 3136 ∷ 3137 ∷ 3138 ∷ 3139 ∷ 3140 ∷ 3141 ∷ 3142 ∷ 3143 ∷ 3144 ∷ 3145 ∷ 3146 ∷ 3147 ∷ 3148 ∷ 3149 ∷ 3152 ∷ [])))
        ∷ block (3153 ∷ 3154 ∷ 3155 ∷ 3156 ∷ 3157 ∷ 3158 ∷ 3159 ∷ 3160 ∷ 3161 ∷ 3162 ∷ 3163 ∷ 3164 ∷ 3165 ∷ 3166 ∷ 3167 ∷ 3168 ∷ []) (does 3169 (row.Word (pos 2)) ([]) no_covers ∷ []) (exit.OnRaise 3169 ([]) (Some (link 2 (3169 ∷ []))) (link 220 (3153 ∷ 3154 ∷ 3155 ∷ 3156 ∷ 3157 ∷ 3158 ∷ 3159 ∷ 3160 ∷ 3161 ∷ 3162 ∷ 3163 ∷ 3164 ∷ 3165 ∷ 3166 ∷ 3167 ∷ 3168 ∷ 3169 ∷ [])))
        ∷ block (3170 ∷ 3171 ∷ 3172 ∷ 3173 ∷ 3174 ∷ 3175 ∷ 3176 ∷ 3177 ∷ 3178 ∷ 3179 ∷ 3180 ∷ 3181 ∷ 3182 ∷ 3183 ∷ 3184 ∷ []) (does 3185 row.Copy (3173 ∷ []) no_covers ∷ []) (exit.OnRaise 3185 ([]) (Some (link 2 (3185 ∷ []))) (link 221 (3170 ∷ 3171 ∷ 3172 ∷ 3173 ∷ 3174 ∷ 3175 ∷ 3176 ∷ 3177 ∷ 3178 ∷ 3179 ∷ 3180 ∷ 3181 ∷ 3182 ∷ 3183 ∷ 3184 ∷ 3185 ∷ [])))
        ∷ block (3186 ∷ 3187 ∷ 3188 ∷ 3189 ∷ 3190 ∷ 3191 ∷ 3192 ∷ 3193 ∷ 3194 ∷ 3195 ∷ 3196 ∷ 3197 ∷ 3198 ∷ 3199 ∷ 3200 ∷ 3201 ∷ 3202 ∷ 3203 ∷ []) (does 3204 row.NonNegative (3189 ∷ 3202 ∷ []) no_covers ∷ []) (exit.OnRaise 3204 ([]) (Some (link 2 (3204 ∷ []))) (link 222 (3186 ∷ 3187 ∷ 3188 ∷ 3204 ∷ 3190 ∷ 3191 ∷ 3192 ∷ 3193 ∷ 3194 ∷ 3195 ∷ 3196 ∷ 3197 ∷ 3198 ∷ 3199 ∷ 3200 ∷ [])))
        ∷ block (3205 ∷ 3206 ∷ 3207 ∷ 3208 ∷ 3209 ∷ 3210 ∷ 3211 ∷ 3212 ∷ 3213 ∷ 3214 ∷ 3215 ∷ 3216 ∷ 3217 ∷ 3218 ∷ 3219 ∷ 3220 ∷ 3221 ∷ 3222 ∷ 3223 ∷ []) [] (exit.If 3223 (link 223 (3205 ∷ 3206 ∷ 3207 ∷ 3208 ∷ 3209 ∷ 3210 ∷ 3211 ∷ 3212 ∷ 3213 ∷ 3214 ∷ 3215 ∷ 3216 ∷ 3217 ∷ 3218 ∷ 3219 ∷ 3220 ∷ 3221 ∷ 3222 ∷ [])) (link 218 (3205 ∷ 3206 ∷ 3207 ∷ 3208 ∷ 3209 ∷ 3210 ∷ 3211 ∷ 3212 ∷ 3213 ∷ 3214 ∷ 3215 ∷ 3216 ∷ 3217 ∷ 3218 ∷ 3219 ∷ [])))
        ∷ block (3224 ∷ 3225 ∷ 3226 ∷ 3227 ∷ 3228 ∷ 3229 ∷ 3230 ∷ 3231 ∷ 3232 ∷ 3233 ∷ 3234 ∷ 3235 ∷ 3236 ∷ 3237 ∷ 3238 ∷ 3239 ∷ 3240 ∷ 3241 ∷ []) (does 3242 row.Truth (3241 ∷ []) no_covers ∷ []) (exit.OnRaise 3242 ([]) (Some (link 2 (3242 ∷ []))) (link 224 (3224 ∷ 3225 ∷ 3226 ∷ 3227 ∷ 3228 ∷ 3229 ∷ 3230 ∷ 3231 ∷ 3232 ∷ 3233 ∷ 3234 ∷ 3235 ∷ 3236 ∷ 3237 ∷ 3238 ∷ 3239 ∷ 3240 ∷ 3241 ∷ 3242 ∷ [])))
        ∷ block (3243 ∷ 3244 ∷ 3245 ∷ 3246 ∷ 3247 ∷ 3248 ∷ 3249 ∷ 3250 ∷ 3251 ∷ 3252 ∷ 3253 ∷ 3254 ∷ 3255 ∷ 3256 ∷ 3257 ∷ 3258 ∷ 3259 ∷ []) (does 3260 (row.Compare cmp.Gt) (3258 ∷ 3259 ∷ []) no_covers ∷ []) (exit.OnRaise 3260 ([]) (Some (link 2 (3260 ∷ []))) (link 225 (3243 ∷ 3244 ∷ 3245 ∷ 3246 ∷ 3247 ∷ 3248 ∷ 3249 ∷ 3250 ∷ 3251 ∷ 3252 ∷ 3253 ∷ 3254 ∷ 3255 ∷ 3256 ∷ 3257 ∷ 3258 ∷ 3259 ∷ 3260 ∷ [])))
        ∷ block (3261 ∷ 3262 ∷ 3263 ∷ 3264 ∷ 3265 ∷ 3266 ∷ 3267 ∷ 3268 ∷ 3269 ∷ 3270 ∷ 3271 ∷ 3272 ∷ 3273 ∷ 3274 ∷ 3275 ∷ 3276 ∷ []) (does 3277 (row.Word (pos 1)) ([]) no_covers ∷ []) (exit.OnRaise 3277 ([]) (Some (link 2 (3277 ∷ []))) (link 226 (3261 ∷ 3262 ∷ 3263 ∷ 3264 ∷ 3265 ∷ 3266 ∷ 3267 ∷ 3268 ∷ 3269 ∷ 3270 ∷ 3271 ∷ 3272 ∷ 3273 ∷ 3274 ∷ 3275 ∷ 3276 ∷ 3277 ∷ [])))
        ∷ block (3278 ∷ 3279 ∷ 3280 ∷ 3281 ∷ 3282 ∷ 3283 ∷ 3284 ∷ 3285 ∷ 3286 ∷ 3287 ∷ 3288 ∷ 3289 ∷ 3290 ∷ 3291 ∷ 3292 ∷ []) (does 3293 row.Copy (3281 ∷ []) no_covers ∷ []) (exit.OnRaise 3293 ([]) (Some (link 2 (3293 ∷ []))) (link 227 (3278 ∷ 3279 ∷ 3280 ∷ 3281 ∷ 3282 ∷ 3283 ∷ 3284 ∷ 3285 ∷ 3286 ∷ 3287 ∷ 3288 ∷ 3289 ∷ 3290 ∷ 3291 ∷ 3292 ∷ 3293 ∷ [])))
        ∷ block (3294 ∷ 3295 ∷ 3296 ∷ 3297 ∷ 3298 ∷ 3299 ∷ 3300 ∷ 3301 ∷ 3302 ∷ 3303 ∷ 3304 ∷ 3305 ∷ 3306 ∷ 3307 ∷ 3308 ∷ 3309 ∷ []) (does 3310 row.Copy (3309 ∷ []) no_covers ∷ []) (exit.OnRaise 3310 ([]) (Some (link 2 (3310 ∷ []))) (link 228 (3294 ∷ 3295 ∷ 3296 ∷ 3310 ∷ 3298 ∷ 3299 ∷ 3300 ∷ 3301 ∷ 3302 ∷ 3303 ∷ 3304 ∷ 3305 ∷ 3306 ∷ 3307 ∷ 3308 ∷ [])))
        ∷ block (3311 ∷ 3312 ∷ 3313 ∷ 3314 ∷ 3315 ∷ 3316 ∷ 3317 ∷ 3318 ∷ 3319 ∷ 3320 ∷ 3321 ∷ 3322 ∷ 3323 ∷ []) (does 3324 row.Copy (3323 ∷ []) no_covers ∷ []) (exit.OnRaise 3324 ([]) (Some (link 2 (3324 ∷ []))) (link 216 (3311 ∷ 3312 ∷ 3313 ∷ 3314 ∷ 3315 ∷ 3316 ∷ 3317 ∷ 3318 ∷ 3319 ∷ 3320 ∷ 3321 ∷ 3322 ∷ 3324 ∷ [])))
        ∷ block (3325 ∷ 3326 ∷ 3327 ∷ 3328 ∷ 3329 ∷ 3330 ∷ 3331 ∷ 3332 ∷ 3333 ∷ 3334 ∷ 3335 ∷ 3336 ∷ 3337 ∷ 3338 ∷ 3339 ∷ []) (does 3340 (row.Item None) (3338 ∷ 3339 ∷ []) no_covers ∷ []) (exit.OnRaise 3340 ([]) (Some (link 2 (3340 ∷ []))) (link 229 (3325 ∷ 3326 ∷ 3327 ∷ 3328 ∷ 3329 ∷ 3330 ∷ 3331 ∷ 3332 ∷ 3333 ∷ 3334 ∷ 3335 ∷ 3336 ∷ 3337 ∷ 3338 ∷ 3339 ∷ 3340 ∷ [])))
        ∷ block (3341 ∷ 3342 ∷ 3343 ∷ 3344 ∷ 3345 ∷ 3346 ∷ 3347 ∷ 3348 ∷ 3349 ∷ 3350 ∷ 3351 ∷ 3352 ∷ 3353 ∷ 3354 ∷ 3355 ∷ []) (does 3356 row.Turn ([]) no_covers ∷ []) (exit.OnRaise 3356 ([]) (Some (link 2 (3356 ∷ []))) (link 231 (3341 ∷ 3342 ∷ 3343 ∷ 3344 ∷ 3345 ∷ 3346 ∷ 3347 ∷ 3348 ∷ 3349 ∷ 3350 ∷ 3351 ∷ 3352 ∷ 3353 ∷ 3354 ∷ 3355 ∷ [])))
        ∷ block (3357 ∷ 3358 ∷ 3359 ∷ 3360 ∷ 3361 ∷ 3362 ∷ 3363 ∷ 3364 ∷ 3365 ∷ 3366 ∷ 3367 ∷ 3368 ∷ 3369 ∷ 3370 ∷ 3371 ∷ 3372 ∷ []) [] (exit.If 3372 (link 232 (3357 ∷ 3358 ∷ 3359 ∷ 3360 ∷ 3361 ∷ 3362 ∷ 3363 ∷ 3364 ∷ 3365 ∷ 3366 ∷ 3367 ∷ 3368 ∷ 3369 ∷ 3370 ∷ 3371 ∷ [])) (link 230 (3357 ∷ 3358 ∷ 3359 ∷ 3360 ∷ 3361 ∷ 3362 ∷ 3363 ∷ 3364 ∷ 3365 ∷ 3366 ∷ 3367 ∷ 3368 ∷ 3369 ∷ [])))
        ∷ block (3373 ∷ 3374 ∷ 3375 ∷ 3376 ∷ 3377 ∷ 3378 ∷ 3379 ∷ 3380 ∷ 3381 ∷ 3382 ∷ 3383 ∷ 3384 ∷ 3385 ∷ 3386 ∷ 3387 ∷ []) (does 3388 (row.HasItem None) (3386 ∷ 3387 ∷ []) no_covers ∷ []) (exit.OnRaise 3388 ([]) (Some (link 2 (3388 ∷ []))) (link 233 (3373 ∷ 3374 ∷ 3375 ∷ 3376 ∷ 3377 ∷ 3378 ∷ 3379 ∷ 3380 ∷ 3381 ∷ 3382 ∷ 3383 ∷ 3384 ∷ 3385 ∷ 3386 ∷ 3387 ∷ 3388 ∷ [])))
        ∷ block (3389 ∷ 3390 ∷ 3391 ∷ 3392 ∷ 3393 ∷ 3394 ∷ 3395 ∷ 3396 ∷ 3397 ∷ 3398 ∷ 3399 ∷ 3400 ∷ 3401 ∷ 3402 ∷ []) (does 3403 (row.Word (pos 0)) ([]) no_covers ∷ []) (exit.OnRaise 3403 ([]) (Some (link 2 (3403 ∷ []))) (link 217 (3389 ∷ 3390 ∷ 3391 ∷ 3392 ∷ 3393 ∷ 3394 ∷ 3395 ∷ 3396 ∷ 3397 ∷ 3398 ∷ 3399 ∷ 3400 ∷ 3401 ∷ 3402 ∷ 3403 ∷ [])))
        ∷ block (3404 ∷ 3405 ∷ 3406 ∷ 3407 ∷ 3408 ∷ 3409 ∷ 3410 ∷ 3411 ∷ 3412 ∷ 3413 ∷ 3414 ∷ 3415 ∷ 3416 ∷ 3417 ∷ []) (does 3418 (row.Walk 2) (3417 ∷ []) no_covers ∷ []) (exit.OnRaise 3418 ([]) (Some (link 2 (3418 ∷ []))) (link 235 (3404 ∷ 3405 ∷ 3406 ∷ 3407 ∷ 3408 ∷ 3409 ∷ 3410 ∷ 3411 ∷ 3412 ∷ 3413 ∷ 3414 ∷ 3415 ∷ 3416 ∷ 3418 ∷ [])))
        ∷ block (3419 ∷ 3420 ∷ 3421 ∷ 3422 ∷ 3423 ∷ 3424 ∷ 3425 ∷ 3426 ∷ 3427 ∷ 3428 ∷ 3429 ∷ 3430 ∷ 3431 ∷ []) (does 3432 row.Copy (3419 ∷ []) no_covers ∷ []) (exit.OnRaise 3432 ([]) (Some (link 2 (3432 ∷ []))) (link 236 (3419 ∷ 3420 ∷ 3421 ∷ 3422 ∷ 3423 ∷ 3424 ∷ 3425 ∷ 3426 ∷ 3427 ∷ 3428 ∷ 3429 ∷ 3430 ∷ 3431 ∷ 3432 ∷ [])))
        ∷ block (3433 ∷ 3434 ∷ 3435 ∷ 3436 ∷ 3437 ∷ 3438 ∷ 3439 ∷ 3440 ∷ 3441 ∷ 3442 ∷ 3443 ∷ 3444 ∷ []) (does 3445 (row.Comprehension 1) ([]) no_covers ∷ []) (exit.OnRaise 3445 ([]) (Some (link 2 (3445 ∷ []))) (link 237 (3433 ∷ 3434 ∷ 3435 ∷ 3436 ∷ 3437 ∷ 3438 ∷ 3439 ∷ 3440 ∷ 3441 ∷ 3442 ∷ 3443 ∷ 3444 ∷ 3445 ∷ [])))
        ∷ [];
  } ∷ [];
}

stands : HasFunction program graphs 0 function
unfolding body function program graphs
stands =
    (238, omega arith, (0, 0, false, refl), (12, 0, false, refl), (13, 0, false, refl), (14, 0, false, refl), (14, 0, false, refl), (238, 215, 215, refl, (216, (237, 217, 230, (3433, 0, false, refl), (236, 235, (omega arith, (3419, 0, false, refl)), (3404, 0, false, refl), (3389, 0, false, refl)), (229, 228, 218, (234, 233, 232, 231, (3087, 0, false, refl), (3373, 0, false, refl), (3357, 0, false, refl), (3341, 0, false, refl), (3325, 0, false, refl), (3102, 0, false, refl)), (229, 15, 16, omega arith, (refl, refl, refl), (3294, 0, false, refl)), (222, 219, inl (inr (225, 2, (refl, (226, (227, (omega arith, (3278, 0, false, refl)), (226, inl (227, refl, (3261, 0, false, refl)), refl)), (3243, 0, false, refl), tt)), (224, (first 223 18), (first 218 15), (3224, 0, false, refl), (3205, 0, false, refl), inr (223, 3, row.NonNegative, 3 ∷ 16 ∷ [], refl, omega arith, (inl refl), (refl, inr (16, refl, omega arith, omega arith, λ x y w. refl)), (3186, 0, false, refl), refl), inl refl))), inl (220, (221, (omega arith, (3170, 0, false, refl)), (220, inl (221, refl, (3153, 0, false, refl)), refl)), (3135, 0, false, refl)), (3118, 0, false, refl))), (3311, 0, false, refl)), (216, 12, 13, omega arith, (refl, refl, refl), (3073, 0, false, refl))), refl, (215, 199, 199, refl, (200, (214, 213, (omega arith, (3060, 0, false, refl)), (3046, 0, false, refl), (3032, 0, false, refl)), (208, 207, 201, (212, 211, 210, 209, (2824, 0, false, refl), (3017, 0, false, refl), (3002, 0, false, refl), (2987, 0, false, refl), (2972, 0, false, refl), (2838, 0, false, refl)), (208, 14, 15, omega arith, (refl, refl, refl), (2956, 0, false, refl)), (207, 201, 201, refl, (206, 205, 204, 203, 202, (omega arith, (2941, 0, false, refl)), (omega arith, (2925, 0, false, refl)), (2908, 0, false, refl), inl (204, refl, (2890, 0, false, refl)), (2871, 0, false, refl), (2853, 0, false, refl)), refl, refl))), refl, (199, 167, 167, refl, (168, (198, 197, (omega arith, (2811, 0, false, refl)), (2797, 0, false, refl), (2783, 0, false, refl)), (192, 186, 169, (196, 195, 194, 193, (2332, 0, false, refl), (2768, 0, false, refl), (2753, 0, false, refl), (2738, 0, false, refl), (2723, 0, false, refl), (2346, 0, false, refl)), (192, 191, 187, 14, 15, (refl, refl, refl), (2707, 0, false, refl), (189, (190, 15, 16, omega arith, ((2691, 0, false, refl), refl, refl), (2674, 0, false, refl)), (187, (188, 15, 16, omega arith, ((2658, 0, false, refl), refl, refl), (2641, 0, false, refl)), refl)), (2626, 0, false, refl)), (186, 169, 169, refl, (171, 170, (181, inl (185, (omega arith, (2611, 0, false, refl)), (184, (first 182 15), (first 183 15), (2595, 0, false, refl), (2579, 0, false, refl), inr (182, 5, row.DropNone, 5 ∷ [], refl, omega arith, refl, (refl, inl (refl, λ x w. refl)), (2547, 0, false, refl), refl), inr (183, 5, row.FalseNone, 5 ∷ [], refl, omega arith, refl, (refl, inl (refl, λ x w. refl)), (2563, 0, false, refl), refl))), inr (refl, (176, inl (180, (omega arith, (2532, 0, false, refl)), (179, (first 177 15), (first 178 15), (2516, 0, false, refl), (2500, 0, false, refl), inr (177, 6, row.DropNone, 6 ∷ [], refl, omega arith, refl, (refl, inl (refl, λ x w. refl)), (2468, 0, false, refl), refl), inr (178, 6, row.FalseNone, 6 ∷ [], refl, omega arith, refl, (refl, inl (refl, λ x w. refl)), (2484, 0, false, refl), refl))), inl (175, (omega arith, (2453, 0, false, refl)), (174, (first 172 15), (first 173 15), (2437, 0, false, refl), (2421, 0, false, refl), inr (172, 5, row.DropNone, 5 ∷ [], refl, omega arith, refl, (refl, inl (refl, λ x w. refl)), (2389, 0, false, refl), refl), inr (173, 5, row.FalseNone, 5 ∷ [], refl, omega arith, refl, (refl, inl (refl, λ x w. refl)), (2405, 0, false, refl), refl)))))), (171, 169, 169, refl, (2375, 0, false, refl), refl, refl), (170, 169, 169, refl, (2361, 0, false, refl), refl, refl)), refl, refl))), refl, (167, 164, 164, refl, (165, inl (166, (166, (const.Word (pos 5), five, (2319, 0, false, refl)), refl), (2305, 0, false, refl)), (165, 12, 13, omega arith, (refl, refl, refl), (2291, 0, false, refl))), refl, (164, 159, 159, refl, (163, 162, 161, 160, (omega arith, (2278, 0, false, refl)), (2264, 0, false, refl), inl (162, refl, (2249, 0, false, refl)), (2233, 0, false, refl), (2218, 0, false, refl)), refl, (159, 147, 147, refl, (158, (omega arith, (2205, 0, false, refl)), (158, 157, 148, 12, 13, (refl, refl, refl), (2191, 0, false, refl), (153, (156, 155, 154, 14, 15, (2177, 0, false, refl), (omega arith, (2163, 0, false, refl)), ((2148, 0, false, refl), refl, refl), (2132, 0, false, refl)), (148, (152, 151, 150, 149, 15, 16, (2118, 0, false, refl), (omega arith, (2104, 0, false, refl)), inl (151, refl, (2089, 0, false, refl)), ((2073, 0, false, refl), refl, refl), (2056, 0, false, refl)), refl)), (2043, 0, false, refl))), refl, (147, 140, 140, refl, (141, (142, 143, (1961, 0, false, refl), (omega arith, (1975, 0, false, refl)), inl (146, (omega arith, (2030, 0, false, refl)), (145, (first_and 142 12 12), (first 144 13), (2016, 0, false, refl), (2002, 0, false, refl), inl refl, inr (144, 5, row.FalseNone, 5 ∷ [], refl, omega arith, refl, (refl, inl (refl, λ x w. refl)), (1988, 0, false, refl), refl)))), (141, 12, 13, omega arith, (refl, refl, refl), (1947, 0, false, refl))), refl, (140, 126, 126, refl, (127, inr (refl, (128, 130, 129, (1769, 0, false, refl), (1783, 0, false, refl), (1796, 0, false, refl), (135, inl (139, (omega arith, (1934, 0, false, refl)), (138, (first 136 13), (first 137 13), (1920, 0, false, refl), (1906, 0, false, refl), inr (136, 5, row.DropNone, 5 ∷ [], refl, omega arith, refl, (refl, inl (refl, λ x w. refl)), (1878, 0, false, refl), refl), inr (137, 5, row.FalseNone, 5 ∷ [], refl, omega arith, refl, (refl, inl (refl, λ x w. refl)), (1892, 0, false, refl), refl))), inl (134, (omega arith, (1865, 0, false, refl)), (133, (first 131 13), (first 132 13), (1851, 0, false, refl), (1837, 0, false, refl), inr (131, 6, row.DropNone, 6 ∷ [], refl, omega arith, refl, (refl, inl (refl, λ x w. refl)), (1809, 0, false, refl), refl), inr (132, 6, row.FalseNone, 6 ∷ [], refl, omega arith, refl, (refl, inl (refl, λ x w. refl)), (1823, 0, false, refl), refl)))))), (127, 12, 13, omega arith, (refl, refl, refl), (1755, 0, false, refl))), refl, (126, 111, 111, refl, (113, (record { class = 6; local = Some 10; aim = record { to = 115; keep = 12 } } ∷ record { class = 7; local = Some 10; aim = record { to = 115; keep = 12 } } ∷ record { class = 8; local = None; aim = record { to = 119; keep = 12 } } ∷ []), record { to = 120; keep = 12 }, (113, 111, 111, refl, (112, inl (113, refl, (1565, 0, false, refl)), (112, 12, 13, omega arith, (refl, refl, refl), (1551, 0, false, refl))), refl, refl), (115, (record { class = 8; local = None; aim = record { to = 119; keep = 12 } } ∷ []), omega arith, (115, 111, 111, refl, (114, (const.None, nothing, (1592, 0, false, refl)), (114, 12, 13, omega arith, (refl, refl, refl), (1578, 0, false, refl))), refl, refl), refl, (119, ([]), tt, (119, 111, 111, refl, (116, inl (117, (118, (omega arith, (1647, 0, false, refl)), (117, inl (118, refl, (1633, 0, false, refl)), refl)), (1618, 0, false, refl)), (1605, 0, false, refl)), refl, refl), refl, (111, 120, refl, refl, (111, 111, 111, refl, refl, refl, refl), (1660, 0, false, refl), refl))), (125, 121, 113, (1742, 0, false, refl), (122, inl (123, (124, (omega arith, (1729, 0, false, refl)), (123, inl (124, refl, (1715, 0, false, refl)), refl)), (1700, 0, false, refl)), (122, 12, 13, omega arith, (refl, refl, refl), (1686, 0, false, refl))), (1673, 0, false, refl), refl)), refl, (111, 101, 101, refl, (102, (110, 109, inl (111, refl, (1538, 0, false, refl)), (omega arith, (1524, 0, false, refl)), (1510, 0, false, refl)), (104, 103, 103, (108, 107, 106, 105, (1405, 0, false, refl), (1495, 0, false, refl), (1480, 0, false, refl), (1465, 0, false, refl), (1450, 0, false, refl), (1419, 0, false, refl)), (104, 14, 15, omega arith, (refl, refl, refl), (1434, 0, false, refl)), (103, 103, 103, refl, refl, refl, refl))), refl, (101, 82, 82, refl, (83, (100, (omega arith, (1392, 0, false, refl)), (1378, 0, false, refl)), (95, 94, 84, (99, 98, 97, 96, (1107, 0, false, refl), (1363, 0, false, refl), (1348, 0, false, refl), (1333, 0, false, refl), (1318, 0, false, refl), (1121, 0, false, refl)), (95, 14, 15, omega arith, (refl, refl, refl), (1302, 0, false, refl)), (94, 84, 84, refl, (84, 87, inl (inr (91, 2, (refl, (92, (93, (omega arith, (1287, 0, false, refl)), (92, (omega arith, (1271, 0, false, refl)), refl)), (1254, 0, false, refl), tt)), (90, (first 88 17), (first 89 17), (1236, 0, false, refl), (1218, 0, false, refl), inr (88, 6, row.NonNegative, 6 ∷ 14 ∷ [], refl, omega arith, (inr (inl refl)), (refl, inr (14, refl, omega arith, omega arith, λ x y w. refl)), (1182, 0, false, refl), refl), inr (89, 3, row.NonNegative, 3 ∷ 15 ∷ [], refl, omega arith, (inl refl), (refl, inr (15, refl, omega arith, omega arith, λ x y w. refl)), (1200, 0, false, refl), refl)))), refl, (87, 84, 84, refl, (85, inl (86, (86, inl (87, refl, (1167, 0, false, refl)), refl), (1151, 0, false, refl)), (1136, 0, false, refl)), refl, refl)), refl, refl))), refl, (82, 73, 73, refl, (75, 73, inl (inl (79, inl (80, (81, (omega arith, (1094, 0, false, refl)), (80, (const.None, nothing, (1080, 0, false, refl)), refl)), (1065, 0, false, refl)), (78, (first 76 13), (first 77 13), (1051, 0, false, refl), (1037, 0, false, refl), inr (76, 9, row.DropNone, 9 ∷ [], refl, omega arith, (inl refl), (refl, inl (refl, λ x w. refl)), (1009, 0, false, refl), refl), inr (77, 9, row.OnlyNone, 9 ∷ [], refl, omega arith, (inl refl), (refl, inl (refl, λ x w. refl)), (1023, 0, false, refl), refl)))), (75, 73, 73, refl, (74, (omega arith, (996, 0, false, refl)), inl (983, 0, false, refl)), refl, refl), refl), refl, (73, 67, 67, refl, (71, inl (72, (72, (omega arith, (970, 0, false, refl)), refl), (956, 0, false, refl)), (70, (71, 12, 13, omega arith, (refl, refl, refl), (942, 0, false, refl)), (70, 69, 68, 68, 12, 15, refl, (omega arith, (928, 0, false, refl)), inl (69, refl, (913, 0, false, refl)), (refl, refl, refl), (897, 0, false, refl)))), refl, (67, 13, 13, refl, (14, 24, 34, 44, 54, 23, 33, 43, 53, (14, 13, 13, refl, (22, 17, 16, (157, 0, false, refl), inl (inl (20, inl (21, (21, (omega arith, (265, 0, false, refl)), refl), (251, 0, false, refl)), (19, (first 18 13), (first 13 12), (237, 0, false, refl), (223, 0, false, refl), inr (18, 11, (row.Lower 13), 11 ∷ [], refl, omega arith, (inl refl), (refl, inl (refl, λ x w. refl)), (209, 0, false, refl), refl), inl refl))), (196, 0, false, refl), (16, 14, 14, refl, (15, (const.None, nothing, (183, 0, false, refl)), (15, 12, 13, omega arith, (refl, refl, refl), (169, 0, false, refl))), refl, refl)), refl, refl), (24, 23, 23, refl, (32, 27, 26, (290, 0, false, refl), inl (inl (30, inl (31, (31, (omega arith, (398, 0, false, refl)), refl), (384, 0, false, refl)), (29, (first 28 13), (first 23 12), (370, 0, false, refl), (356, 0, false, refl), inr (28, 11, (row.Lower 13), 11 ∷ [], refl, omega arith, (inl refl), (refl, inl (refl, λ x w. refl)), (342, 0, false, refl), refl), inl refl))), (329, 0, false, refl), (26, 24, 24, refl, (25, (const.None, nothing, (316, 0, false, refl)), (25, 12, 13, omega arith, (refl, refl, refl), (302, 0, false, refl))), refl, refl)), refl, refl), (278, 0, false, refl), (34, 33, 33, refl, (42, 37, 36, (423, 0, false, refl), inl (inl (40, inl (41, (41, (omega arith, (531, 0, false, refl)), refl), (517, 0, false, refl)), (39, (first 38 13), (first 33 12), (503, 0, false, refl), (489, 0, false, refl), inr (38, 11, (row.Lower 13), 11 ∷ [], refl, omega arith, (inl refl), (refl, inl (refl, λ x w. refl)), (475, 0, false, refl), refl), inl refl))), (462, 0, false, refl), (36, 34, 34, refl, (35, (const.None, nothing, (449, 0, false, refl)), (35, 12, 13, omega arith, (refl, refl, refl), (435, 0, false, refl))), refl, refl)), refl, refl), (411, 0, false, refl), (44, 43, 43, refl, (52, 47, 46, (557, 0, false, refl), inl (inl (50, inl (51, (51, (omega arith, (673, 0, false, refl)), refl), (658, 0, false, refl)), (49, (first 48 14), (first 43 13), (643, 0, false, refl), (628, 0, false, refl), inr (48, 11, (row.Lower 13), 11 ∷ [], refl, omega arith, (inl refl), (refl, inl (refl, λ x w. refl)), (613, 0, false, refl), refl), inl refl))), (599, 0, false, refl), (46, 44, 44, refl, (45, (const.None, nothing, (585, 0, false, refl)), (45, 13, 14, omega arith, (refl, refl, refl), (570, 0, false, refl))), refl, refl)), refl, refl), (544, 0, false, refl), (54, 53, 53, refl, (62, 57, 56, (701, 0, false, refl), inl (inl (60, inl (61, (61, (omega arith, (817, 0, false, refl)), refl), (802, 0, false, refl)), (59, (first 58 14), (first 53 13), (787, 0, false, refl), (772, 0, false, refl), inr (58, 11, (row.Lower 13), 11 ∷ [], refl, omega arith, (inl refl), (refl, inl (refl, λ x w. refl)), (757, 0, false, refl), refl), inl refl))), (743, 0, false, refl), (56, 54, 54, refl, (55, (const.None, nothing, (729, 0, false, refl)), (55, 13, 14, omega arith, (refl, refl, refl), (714, 0, false, refl))), refl, refl)), refl, refl), (687, 0, false, refl), (66, 63, 14, (884, 0, false, refl), (64, inl (65, (65, (omega arith, (871, 0, false, refl)), refl), (857, 0, false, refl)), (844, 0, false, refl)), (831, 0, false, refl), refl)), refl, (13, 4, 4, refl, (5, (12, 6, (144, 0, false, refl), (11, 10, 9, inl (12, refl, (130, 0, false, refl)), (omega arith, (115, 0, false, refl)), (99, 0, false, refl), (8, 7, 6, inl (9, refl, (85, 0, false, refl)), (omega arith, (70, 0, false, refl)), (54, 0, false, refl), refl)), (40, 0, false, refl)), inl (27, 0, false, refl)), refl, refl))))))))))))))))
