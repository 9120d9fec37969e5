pub mod BytesAgain
