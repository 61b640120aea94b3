-- `script_records::format::test_table` meets its contract. Assumes nothing.
use Rattle.ground.proofs.Names.{ℕ, ◌*◌, ◌<◌, ◌≡◌, sym, ◌∙◌, arith, rules, length, get_or, tabulate, ext_get_or, length_tabulate, get_d_tabulate}
use Rattle.script_records.proofs.format.test_table.Goals as goal

pub returns : goal.returns
returns c =
    let r = c.from_fn.ensures.items in
    let f : ℕ → ℕ = λ k. 257 * k in
    let l : length c.from_fn.result ≡ 128 = r.long in
    let each : (i : ℕ) → i < 128 → get_or c.from_fn.result i 0 ≡ 257 * i = λ i b. let a = r.at i 0 b in let d = a.2 in search rules in
    ext_get_or 0 c.from_fn.result (tabulate 128 f) (l ∙ sym (length_tabulate 128 f)) (λ i h. let b : i < 128 = omega (arith, h, l) in each i b ∙ sym (get_d_tabulate 128 f 0 i b))
