use Rattle.std.proofs.Common.{◌≡◌, ◌∙◌, Err, ap, refl}
use Rattle.std.proofs.lemmas.Result.{err_from_is_err_and}
use Rattle.shown_reading.specs.Words.{first_word}
use Rattle.shown_reading.proofs.Variants.{built, unbuilt, is_getdata, is_inv, is_notfound, is_ping, is_pong, is_reqsketchext, is_sketch, is_tx, is_verack, is_version, is_wtxidrelay}
use Rattle.shown_reading.proofs.messages.named_message.Goals as goal

pub returns-in_err-version_in-in-Version : goal.returns-in_err-version_in-in-Version
returns-in_err-version_in-in-Version c =
    let p = err_from_is_err_and c.from_residual.result c.from_residual.ensures.1 in
    let same : c.from_residual.result ≡ Err c.in_err-version_in-in-Version.field-0.0 = cc in
    rw same (unbuilt is_version c.args.name c.in-Version.is c.args.words _ _ c.in_err-version_in-in-Version.field-0.0 (λ y h e. (y, h, e)) c.in_err-version_in-in-Version.ensures)

pub returns-in_ok-version_in-in-Version : goal.returns-in_ok-version_in-in-Version
returns-in_ok-version_in-in-Version c = built is_version c.args.name c.in-Version.is c.args.words c.in_ok-version_in-in-Version.field-0 c.in_ok-version_in-in-Version.ensures.0 c.in_ok-version_in-in-Version.ensures.1

pub returns-in_err-entries_in-in-Inv : goal.returns-in_err-entries_in-in-Inv
returns-in_err-entries_in-in-Inv c =
    let p = err_from_is_err_and c.from_residual-in_err-entries_in-in-Inv.result c.from_residual-in_err-entries_in-in-Inv.ensures.1 in
    let same : c.from_residual-in_err-entries_in-in-Inv.result ≡ Err c.in_err-entries_in-in-Inv.field-0.0 = cc in
    rw same (unbuilt is_inv c.args.name c.in-Inv.is c.args.words _ _ c.in_err-entries_in-in-Inv.field-0.0 (λ y h e. (y, h, e)) c.in_err-entries_in-in-Inv.ensures)

pub returns-in_ok-entries_in-in-Inv : goal.returns-in_ok-entries_in-in-Inv
returns-in_ok-entries_in-in-Inv c = built is_inv c.args.name c.in-Inv.is c.args.words c.in_ok-entries_in-in-Inv.field-0 c.in_ok-entries_in-in-Inv.ensures.0 c.in_ok-entries_in-in-Inv.ensures.1

pub returns-in_err-entries_in-in-GetData : goal.returns-in_err-entries_in-in-GetData
returns-in_err-entries_in-in-GetData c =
    let p = err_from_is_err_and c.from_residual-in_err-entries_in-in-GetData.result c.from_residual-in_err-entries_in-in-GetData.ensures.1 in
    let same : c.from_residual-in_err-entries_in-in-GetData.result ≡ Err c.in_err-entries_in-in-GetData.field-0.0 = cc in
    rw same (unbuilt is_getdata c.args.name c.in-GetData.is c.args.words _ _ c.in_err-entries_in-in-GetData.field-0.0 (λ y h e. (y, h, e)) c.in_err-entries_in-in-GetData.ensures)

pub returns-in_ok-entries_in-in-GetData : goal.returns-in_ok-entries_in-in-GetData
returns-in_ok-entries_in-in-GetData c = built is_getdata c.args.name c.in-GetData.is c.args.words c.in_ok-entries_in-in-GetData.field-0 c.in_ok-entries_in-in-GetData.ensures.0 c.in_ok-entries_in-in-GetData.ensures.1

pub returns-in_err-entries_in-in-NotFound : goal.returns-in_err-entries_in-in-NotFound
returns-in_err-entries_in-in-NotFound c =
    let p = err_from_is_err_and c.from_residual-in_err-entries_in-in-NotFound.result c.from_residual-in_err-entries_in-in-NotFound.ensures.1 in
    let same : c.from_residual-in_err-entries_in-in-NotFound.result ≡ Err c.in_err-entries_in-in-NotFound.field-0.0 = cc in
    rw same (unbuilt is_notfound c.args.name c.in-NotFound.is c.args.words _ _ c.in_err-entries_in-in-NotFound.field-0.0 (λ y h e. (y, h, e)) c.in_err-entries_in-in-NotFound.ensures)

pub returns-in_ok-entries_in-in-NotFound : goal.returns-in_ok-entries_in-in-NotFound
returns-in_ok-entries_in-in-NotFound c = built is_notfound c.args.name c.in-NotFound.is c.args.words c.in_ok-entries_in-in-NotFound.field-0 c.in_ok-entries_in-in-NotFound.ensures.0 c.in_ok-entries_in-in-NotFound.ensures.1

pub returns-in_err-bytes_of-in-Sketch : goal.returns-in_err-bytes_of-in-Sketch
returns-in_err-bytes_of-in-Sketch c =
    let p = err_from_is_err_and c.from_residual-in_err-bytes_of-in-Sketch.result c.from_residual-in_err-bytes_of-in-Sketch.ensures.1 in
    let same : c.from_residual-in_err-bytes_of-in-Sketch.result ≡ Err c.in_err-bytes_of-in-Sketch.field-0.0 = cc in
    rw same (unbuilt is_sketch c.args.name c.in-Sketch.is c.args.words _ _ c.in_err-bytes_of-in-Sketch.field-0.0 (λ y h e. (y, h, c.word.ensures.word ∙ ap first_word e)) c.in_err-bytes_of-in-Sketch.ensures)

pub returns-in_ok-bytes_of-in-Sketch : goal.returns-in_ok-bytes_of-in-Sketch
returns-in_ok-bytes_of-in-Sketch c = built is_sketch c.args.name c.in-Sketch.is c.args.words c.in_ok-bytes_of-in-Sketch.field-0 c.in_ok-bytes_of-in-Sketch.ensures.0 (λ y h e. c.in_ok-bytes_of-in-Sketch.ensures.1 y h (c.word.ensures.word ∙ ap first_word e))

pub returns-in_err-bytes_of-in-Tx : goal.returns-in_err-bytes_of-in-Tx
returns-in_err-bytes_of-in-Tx c =
    let p = err_from_is_err_and c.from_residual-in_err-bytes_of-in-Tx.result c.from_residual-in_err-bytes_of-in-Tx.ensures.1 in
    let same : c.from_residual-in_err-bytes_of-in-Tx.result ≡ Err c.in_err-bytes_of-in-Tx.field-0.0 = cc in
    rw same (unbuilt is_tx c.args.name c.in-Tx.is c.args.words _ _ c.in_err-bytes_of-in-Tx.field-0.0 (λ y h e. (y, h, c.word-in-Tx.ensures.word ∙ ap first_word e)) c.in_err-bytes_of-in-Tx.ensures)

pub returns-in_ok-bytes_of-in-Tx : goal.returns-in_ok-bytes_of-in-Tx
returns-in_ok-bytes_of-in-Tx c = built is_tx c.args.name c.in-Tx.is c.args.words c.in_ok-bytes_of-in-Tx.field-0 c.in_ok-bytes_of-in-Tx.ensures.0 (λ y h e. c.in_ok-bytes_of-in-Tx.ensures.1 y h (c.word-in-Tx.ensures.word ∙ ap first_word e))

pub returns-in_err-number_of-in-Ping : goal.returns-in_err-number_of-in-Ping
returns-in_err-number_of-in-Ping c =
    let p = err_from_is_err_and c.from_residual-in_err-number_of-in-Ping.result c.from_residual-in_err-number_of-in-Ping.ensures.1 in
    let same : c.from_residual-in_err-number_of-in-Ping.result ≡ Err c.in_err-number_of-in-Ping.field-0.0 = cc in
    rw same (unbuilt is_ping c.args.name c.in-Ping.is c.args.words _ _ c.in_err-number_of-in-Ping.field-0.0 (λ y h e. (y, h, c.word-in-Ping.ensures.word ∙ ap first_word e)) c.in_err-number_of-in-Ping.ensures)

pub returns-in_ok-number_of-in-Ping : goal.returns-in_ok-number_of-in-Ping
returns-in_ok-number_of-in-Ping c = built is_ping c.args.name c.in-Ping.is c.args.words c.in_ok-number_of-in-Ping.field-0 c.in_ok-number_of-in-Ping.ensures.0 (λ y h e. c.in_ok-number_of-in-Ping.ensures.1 y h (c.word-in-Ping.ensures.word ∙ ap first_word e))

pub returns-in_err-number_of-in-Pong : goal.returns-in_err-number_of-in-Pong
returns-in_err-number_of-in-Pong c =
    let p = err_from_is_err_and c.from_residual-in_err-number_of-in-Pong.result c.from_residual-in_err-number_of-in-Pong.ensures.1 in
    let same : c.from_residual-in_err-number_of-in-Pong.result ≡ Err c.in_err-number_of-in-Pong.field-0.0 = cc in
    rw same (unbuilt is_pong c.args.name c.in-Pong.is c.args.words _ _ c.in_err-number_of-in-Pong.field-0.0 (λ y h e. (y, h, c.word-in-Pong.ensures.word ∙ ap first_word e)) c.in_err-number_of-in-Pong.ensures)

pub returns-in_ok-number_of-in-Pong : goal.returns-in_ok-number_of-in-Pong
returns-in_ok-number_of-in-Pong c = built is_pong c.args.name c.in-Pong.is c.args.words c.in_ok-number_of-in-Pong.field-0 c.in_ok-number_of-in-Pong.ensures.0 (λ y h e. c.in_ok-number_of-in-Pong.ensures.1 y h (c.word-in-Pong.ensures.word ∙ ap first_word e))

pub returns-in-Verack : goal.returns-in-Verack
returns-in-Verack c = built is_verack c.args.name c.in-Verack.is c.args.words tt refl (λ y h e. refl)

pub returns-in-WtxidRelay : goal.returns-in-WtxidRelay
returns-in-WtxidRelay c = built is_wtxidrelay c.args.name c.in-WtxidRelay.is c.args.words tt refl (λ y h e. refl)

pub returns-in-ReqSketchExt : goal.returns-in-ReqSketchExt
returns-in-ReqSketchExt c = built is_reqsketchext c.args.name c.in-ReqSketchExt.is c.args.words tt refl (λ y h e. refl)
