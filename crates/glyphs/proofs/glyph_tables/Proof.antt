-- `glyphs::glyph_tables` meets its contract. Assumes nothing.
use Rattle.glyphs.proofs.Tabled.{glyph_tables}
use Rattle.glyphs.proofs.glyph_tables.Tie as tie

pub glyph_tables_spec : {M : Type 1} → Rattle.glyphs.proofs.glyph_tables.Statement.statement M
glyph_tables_spec = tie.close (tie.spec (λ c. glyph_tables))
