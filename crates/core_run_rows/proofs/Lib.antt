mod RevokeRows
