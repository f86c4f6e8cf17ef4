-- Contents read back from the bytes of their sheet.
use Rattle.std.proofs.Common.{◌≡◌, ◌≤◌, ◌<◌, ◌^◌, ◌++◌, ◌∙◌, ◌+◌, ◌*◌, ◌-◌, ℕ, true, List, sym, refl, length, Some}
use Rattle.std.proofs.Common.{le-leb, eq-eqb, arith, length-append, IsUtf8}
use Rattle.std.specs.List.{flat_map}
use Rattle.std.proofs.lemmas.Bool.{and_from}
use Rattle.std.proofs.lemmas.Nat.{from_le_bytes-to_le_bytes_4}
use Rattle.std.proofs.lemmas.Str.{is_utf8-from_IsUtf8}
use Rattle.std.proofs.Math.Seq.{drop-append-add, drop-append_seam, take-append_seam}
use Rattle.markdown_records.specs.Decoded.{contents_in, decoded, definition_in, entry_in, has_form, pool_of}
use Rattle.markdown_records.specs.Decoded.{records_bytes_of}
use Rattle.markdown_records.specs.Drafts.{definition_drafts, entry_drafts}
use Rattle.markdown_records.specs.Encoded.{Sheet, blank, encoded, entries_sheet, sheet_bytes, then_drafts, whole_sheet}
use Rattle.markdown_records.specs.RecordEntry.{Contents}
use Rattle.markdown_records.specs.ReadsBack.{IsRecordable, drafts_of}
use Rattle.markdown_records.specs.RecordView.{header_bytes, number_at, record_size, records_in}
use Rattle.markdown_records.proofs.BytesReadBackLemmas.{length_records, records_read_back}
use Rattle.markdown_records.proofs.EntriesReadBackLemmas.{definition_back, entry_back}
use Rattle.markdown_records.proofs.GroupsReadBackLemmas.{all_groups, said_back}
use Rattle.markdown_records.proofs.SheetsReadBackLemmas.{count_written, fit_count, fit_short, length_records_of}
use Rattle.markdown_records.proofs.SheetsReadBackLemmas.{pool_written, pooled_by, records_after, records_of}
use Rattle.markdown_records.proofs.SheetsReadBackLemmas.{records_written}
use Rattle.markdown_records.proofs.TextsReadBackLemmas.{AllRead, all_read, pooled_utf8, read_first, read_second}
use Rattle.markdown_records.proofs.WritesLemmas.{then_both}

-- a sheet whose records are as long as their count says, and whose numbers have 32 bits
pub record IsWhole (source : List ℕ) (entries : ℕ) (sheet : Sheet) : Type 0 where
  pub records : length sheet.records ≡ record_size * sheet.count
  pub count : sheet.count < 2 ^ 32
  pub before : entries ≤ sheet.count
  pub pool : length sheet.pool < 2 ^ 32
  pub text : length source < 2 ^ 32
  pub utf8 : IsUtf8 sheet.pool

-- the pool and the records in the bytes of a sheet
pool_there : (source : List ℕ) (entries : ℕ) (sheet : Sheet) → IsWhole source entries sheet
    → pool_of sheet.count (sheet_bytes source entries sheet) ≡ sheet.pool
pool_there source entries sheet whole =
    let header = header_bytes sheet.count entries (length sheet.pool) (length source) in
    rw (← whole.records) (drop-append-add header (sheet.records ++ sheet.pool) (length sheet.records)
    ∙ drop-append_seam sheet.records sheet.pool)

records_there : (source : List ℕ) (entries : ℕ) (sheet : Sheet) → IsWhole source entries sheet
    → records_bytes_of sheet.count (sheet_bytes source entries sheet) ≡ sheet.records
records_there source entries sheet whole =
    let count : record_size + record_size * sheet.count - record_size ≡ length sheet.records =
    omega (arith, whole.records) in
    rw count (take-append_seam sheet.records sheet.pool)

form_there : (source : List ℕ) (entries : ℕ) (sheet : Sheet) → IsWhole source entries sheet
    → has_form source (sheet_bytes source entries sheet) sheet.count ≡ true
form_there source entries sheet whole =
    let bytes = sheet_bytes source entries sheet in
    let pool : number_at bytes 16 ≡ length sheet.pool = from_le_bytes-to_le_bytes_4 (length sheet.pool) whole.pool in
    let text : number_at bytes 20 ≡ length source = from_le_bytes-to_le_bytes_4 (length source) whole.text in
    let before : number_at bytes 12 ≡ entries =
    from_le_bytes-to_le_bytes_4 entries (omega (arith, whole.before, whole.count)) in
    let long : record_size ≤ length bytes = omega arith in
    let size : length bytes ≡ record_size + record_size * sheet.count + number_at bytes 16 =
    rw pool (omega (arith, length-append sheet.records sheet.pool, whole.records)) in
    let inside : number_at bytes 12 ≤ sheet.count = rw before whole.before in
    let utf8 : IsUtf8 (pool_of sheet.count bytes) = rw (pool_there source entries sheet whole) whole.utf8 in
    and_from _ _ (and_from _ _ (and_from _ _ (and_from _ _ (and_from _ _ (le-leb record_size (length bytes) long)
    (eq-eqb (length bytes) (record_size + record_size * sheet.count + number_at bytes 16) size)) refl)
    (eq-eqb (number_at bytes 20) (length source) text)) (le-leb (number_at bytes 12) sheet.count inside))
    (is_utf8-from_IsUtf8 (pool_of sheet.count bytes) utf8)

-- what is read of bytes whose header has these counts
decoded_from : (source bytes : List ℕ) (count entries : ℕ) (pool records : List ℕ) → number_at bytes 8 ≡ count
    → has_form source bytes count ≡ true → pool_of count bytes ≡ pool → records_bytes_of count bytes ≡ records
    → number_at bytes 12 ≡ entries → decoded source bytes ≡ contents_in source pool entries (records_in records)
decoded_from source bytes count entries pool records number form pool_is records_are before =
    rw (number, form, pool_is, records_are, before) refl

-- what is read of the bytes of a sheet
pub sheet_back : (source : List ℕ) (entries : ℕ) (sheet : Sheet) → IsWhole source entries sheet
    → decoded source (sheet_bytes source entries sheet)
    ≡ contents_in source sheet.pool entries (records_in sheet.records)
sheet_back source entries sheet whole =
    decoded_from source (sheet_bytes source entries sheet) sheet.count entries sheet.pool sheet.records
    (from_le_bytes-to_le_bytes_4 sheet.count whole.count) (form_there source entries sheet whole)
    (pool_there source entries sheet whole) (records_there source entries sheet whole)
    (from_le_bytes-to_le_bytes_4 entries (omega (arith, whole.before, whole.count)))

-- contents are read of the records of their drafts
contents_back : (source pool : List ℕ) (c : Contents) → AllRead source pool blank (drafts_of c)
    → contents_in source pool (length (flat_map entry_drafts c.entries)) (records_of source blank (drafts_of c))
    ≡ Some c
contents_back source pool c reads =
    let es = flat_map entry_drafts c.entries in
    let ds = flat_map definition_drafts c.definitions in
    let between = entries_sheet source c in
    let entries = said_back source pool (entry_in source pool) (records_of source blank es) c.entries
    (all_groups source pool entry_drafts (entry_in source pool) (entry_back source pool) c.entries blank
    (read_first source pool blank es ds reads)) in
    let definitions = said_back source pool (definition_in source pool) (records_of source between ds) c.definitions
    (all_groups source pool definition_drafts (definition_in source pool) (definition_back source pool) c.definitions
    between (read_second source pool blank es ds reads)) in
    rw (
      records_after source blank es ds,
      ← length_records_of source blank es,
      take-append_seam (records_of source blank es) (records_of source between ds),
      drop-append_seam (records_of source blank es) (records_of source between ds),
      entries,
      definitions,
    ) refl

-- the sheet of contents is that of all their drafts
one_sheet : (source : List ℕ) (c : Contents) → whole_sheet source c ≡ then_drafts source blank (drafts_of c)
one_sheet source c =
    sym (then_both source blank (flat_map entry_drafts c.entries) (flat_map definition_drafts c.definitions))

sheet_whole : (source : List ℕ) (c : Contents) → IsRecordable source c
    → IsWhole source (entries_sheet source c).count (then_drafts source blank (drafts_of c))
sheet_whole source c is =
    let es = flat_map entry_drafts c.entries in
    let all = drafts_of c in
    let pool = pool_written source blank all in
    record {
      records = rw (records_written source blank all) (omega (
        arith,
        length_records (records_of source blank all),
        length_records_of source blank all,
        count_written source blank all,
      ));
      count = fit_count source blank all is.fit (omega arith);
      before = omega (
        arith,
        count_written source blank all,
        count_written source blank es,
        length-append es (flat_map definition_drafts c.definitions),
      );
      pool = rw (← one_sheet source c) is.pool_fits;
      text = is.source_fits;
      utf8 = rw pool (pooled_utf8 source all is.sound);
    }

-- contents read back
pub contents_read_back : (source : List ℕ) (c : Contents) → IsRecordable source c
    → decoded source (encoded source c) ≡ Some c
contents_read_back source c is =
    let all = drafts_of c in
    let count = (entries_sheet source c).count in
    let entries : count ≡ length (flat_map entry_drafts c.entries) =
    omega (arith, count_written source blank (flat_map entry_drafts c.entries)) in
    rw (
      one_sheet source c,
      sheet_back source count (then_drafts source blank all) (sheet_whole source c is),
      entries,
      pool_written source blank all,
      records_written source blank all,
      records_read_back (records_of source blank all) (fit_short source blank all is.fit),
    ) (contents_back source (pooled_by source all) c (all_read source blank all is.sound))
